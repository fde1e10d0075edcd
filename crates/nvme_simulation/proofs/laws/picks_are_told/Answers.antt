use Rattle.nvme_simulation.proofs.Telling.{picks_are}
use Rattle.nvme_simulation.proofs.laws.picks_are_told.Goals as goal

pub returns : goal.returns
returns c = picks_are
