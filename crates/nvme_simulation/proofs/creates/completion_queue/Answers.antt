use Rattle.std.proofs.Common.{◌∙◌, arith}
use Rattle.nvme_simulation.proofs.Creating.{create_cq}
use Rattle.nvme_simulation.proofs.creates.completion_queue.Goals as goal

pub returns : goal.returns
returns c =
    create_cq c.entry.result c.args.qid _ _ c.entry.ensures.head.0 (omega (arith, c.entry.ensures.address, c.from.ensures)) (c.entry.ensures.dwords.0 ∙ c.size_and_id.ensures)
    c.entry.ensures.dwords.1.0 (omega (arith, c.ranges.qid.fits)) (omega (arith, c.ranges.slots.fits))
