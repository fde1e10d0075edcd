use Rattle.std.proofs.Common.{◌∙◌, sym}
use Rattle.nvme_arbiter.proofs.MaskLemmas.{class_at}
use Rattle.nvme_arbiter.specs.Layout.{slots_in}
use Rattle.nvme_arbiter.proofs.queues.QueuesFieldsReadyQueues.class_of.Goals as goal

pub returns : goal.returns
returns c = c.class_of.ensures ∙ sym (class_at (slots_in c.args.self.now) c.args.qid c.queue.result c.queue.ensures.is_there)
