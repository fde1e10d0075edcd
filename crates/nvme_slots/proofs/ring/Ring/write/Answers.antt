use Rattle.nvme_slots.proofs.Turns.{writes}
use Rattle.nvme_slots.proofs.ring.Ring.write.Goals as goal

pub returns-clause-counts : goal.returns-clause-counts
returns-clause-counts c read written h room = rw c.next_slot-self.ensures (writes c.args.self.now read written h room)
