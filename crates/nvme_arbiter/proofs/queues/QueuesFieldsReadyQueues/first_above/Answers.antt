use Rattle.std.proofs.Common.{arith}
use Rattle.std.specs.Prelude.{None}
use Rattle.nvme_arbiter.specs.Layout.{slots_in}
use Rattle.nvme_arbiter.proofs.MaskLemmas.{first-above, past-wanted}
use Rattle.nvme_arbiter.proofs.queues.QueuesFieldsReadyQueues.first_above.Goals as goal

pub returns-then-last-ge-HIGHEST_QID : goal.returns-then-last-ge-HIGHEST_QID
returns-then-last-ge-HIGHEST_QID c =
    first-above (slots_in c.args.self.now) c.args.class c.args.last None (λ j l. past-wanted c.args.self.now c.args.class j (omega (arith, l, c.if-last-ge-HIGHEST_QID.true)))

pub returns-else-last-ge-HIGHEST_QID : goal.returns-else-last-ge-HIGHEST_QID
returns-else-last-ge-HIGHEST_QID c = first-above (slots_in c.args.self.now) c.args.class c.args.last c.first_from.result c.first_from.ensures
