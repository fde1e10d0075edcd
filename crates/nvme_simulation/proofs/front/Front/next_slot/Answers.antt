use Rattle.std.proofs.Common.{◌∙◌, sym}
use Rattle.nvme_simulation.proofs.front.Front.next_slot.Goals as goal

pub returns : goal.returns
returns c none rules late notes s slot may = absurd (cc (sym none ∙ c.fetch.ensures.told rules late notes c.args.self.now.pool.items s slot may))
