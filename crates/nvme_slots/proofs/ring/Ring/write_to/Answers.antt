use Rattle.std.proofs.Common.{arith}
use Rattle.nvme_slots.proofs.Turns.{writes-to}
use Rattle.nvme_slots.proofs.ring.Ring.write_to.Goals as goal

pub returns-clause-counts : goal.returns-clause-counts
returns-clause-counts c read written h e =
    let x = c.if-filled-more.false in
    let y = c.from.ensures in
    let z = c.filled.ensures.value in
    let w = c.gap-more.ensures.value in
    writes-to c.args.self.now read written c.args.slot h c.if-slot-self.false (omega (arith, x, y, z, w))
