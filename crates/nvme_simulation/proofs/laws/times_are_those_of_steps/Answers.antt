use Rattle.nvme_simulation.proofs.Runs.{times_are}
use Rattle.nvme_simulation.proofs.laws.times_are_those_of_steps.Goals as goal

pub returns : goal.returns
returns c = times_are
