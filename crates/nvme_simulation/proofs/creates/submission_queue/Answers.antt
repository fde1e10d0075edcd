use Rattle.std.proofs.Common.{◌∙◌, arith}
use Rattle.nvme_simulation.specs.Entries.{priority_of}
use Rattle.nvme_simulation.proofs.Creating.{create_sq}
use Rattle.nvme_simulation.proofs.creates.submission_queue.Goals as goal

pub returns : goal.returns
returns c =
    create_sq c.entry.result c.args.qid _ _ (priority_of c.args.class) c.entry.ensures.head.0 (omega (arith, c.entry.ensures.address, c.from.ensures))
    (c.entry.ensures.dwords.0 ∙ c.size_and_id.ensures) (omega (arith, c.entry.ensures.dwords.1.0, c.from-2.ensures, c.qprio.ensures.value))
    (omega (arith, c.ranges.qid.fits)) (omega (arith, c.ranges.slots.fits)) (omega (arith, c.qprio.ensures.below, c.qprio.ensures.value))
