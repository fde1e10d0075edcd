use Rattle.nvme_arbiter.proofs.MaskLemmas.{class_at}
use Rattle.nvme_arbiter.specs.Layout.{slots_in}
use Rattle.nvme_arbiter.proofs.queues.QueuesFields.seen_class.Goals as goal

pub returns : goal.returns
returns c = class_at (slots_in c.args.self.now) c.args.qid c.args.found c.requires
