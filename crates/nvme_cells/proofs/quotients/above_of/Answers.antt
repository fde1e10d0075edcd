use Rattle.std.proofs.Common.{sum}
use Rattle.nvme_cells.proofs.Wide.{square_is_wide}
use Rattle.nvme_cells.proofs.quotients.above_of.Goals as goal

pub returns-in-None : goal.returns-in-None
returns-in-None c = square_is_wide (sum c.args.parts.now) c.in-None.ensures
