use Rattle.nvme_simulation.proofs.Waits.{settled_is_full}
use Rattle.nvme_simulation.proofs.laws.settled_devices_are_full.Goals as goal

pub returns : goal.returns
returns c = settled_is_full
