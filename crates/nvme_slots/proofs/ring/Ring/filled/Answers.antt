use Rattle.nvme_slots.proofs.Turns.{filled-is}
use Rattle.nvme_slots.proofs.ring.Ring.filled.Goals as goal

pub returns-clause-counts : goal.returns-clause-counts
returns-clause-counts c read written h = rw c.gap.ensures.value (filled-is c.args.self.now read written h)
