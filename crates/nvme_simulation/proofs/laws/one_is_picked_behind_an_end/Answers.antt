use Rattle.nvme_simulation.proofs.Waits.{one_is_picked_behind_an_end}
use Rattle.nvme_simulation.proofs.laws.one_is_picked_behind_an_end.Goals as goal

pub returns : goal.returns
returns c = one_is_picked_behind_an_end
