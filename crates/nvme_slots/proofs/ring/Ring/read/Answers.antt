use Rattle.nvme_slots.proofs.Turns.{reads}
use Rattle.nvme_slots.proofs.ring.Ring.read.Goals as goal

pub returns-clause-counts : goal.returns-clause-counts
returns-clause-counts c read written h more = rw c.next_slot-self.ensures (reads c.args.self.now read written h more)
