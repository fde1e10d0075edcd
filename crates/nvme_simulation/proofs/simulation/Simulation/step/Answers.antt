use Rattle.nvme_simulation.proofs.Handling.{stands_on}
use Rattle.nvme_simulation.proofs.simulation.Simulation.step.Goals as goal

pub returns-then-self-clause-stands : goal.returns-then-self-clause-stands
returns-then-self-clause-stands c = stands_on _ _ c.pick.ensures.same c.requires.stands

pub returns-else-self-clause-stands : goal.returns-else-self-clause-stands
returns-else-self-clause-stands c = stands_on _ _ c.advance.ensures.same c.requires.stands
