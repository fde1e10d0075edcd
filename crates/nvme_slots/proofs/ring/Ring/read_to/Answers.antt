use Rattle.std.proofs.Common.{arith}
use Rattle.nvme_slots.proofs.Turns.{reads-to}
use Rattle.nvme_slots.proofs.ring.Ring.read_to.Goals as goal

pub returns-clause-counts : goal.returns-clause-counts
returns-clause-counts c read written h e =
    let x = c.if-gap-filled.false in
    let z = c.filled.ensures.value in
    let w = c.gap.ensures.value in
    reads-to c.args.self.now read written c.args.slot h c.if-slot-self.false (omega (arith, x, z, w))
