use Rattle.nvme_numbers.proofs.Jain.{squares_are_wide}
use Rattle.nvme_numbers.proofs.quotient.below_of.Goals as goal

pub returns-in-None : goal.returns-in-None
returns-in-None c = squares_are_wide c.args.parts.now c.in-None.ensures
