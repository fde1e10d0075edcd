use Rattle.nvme_simulation.proofs.Waits.{picks_have_room}
use Rattle.nvme_simulation.proofs.laws.picks_have_room.Goals as goal

pub returns : goal.returns
returns c = picks_have_room
