use Rattle.nvme_cells.proofs.Wide.{squares_are_wide}
use Rattle.nvme_cells.proofs.quotients.below_of.Goals as goal

pub returns-in-None : goal.returns-in-None
returns-in-None c = squares_are_wide c.args.parts.now c.in-None.ensures
