use Rattle.std.proofs.Common.{refl}
use Rattle.nvme_simulation.proofs.Progress.{host_same}
use Rattle.nvme_simulation.proofs.host.Host.completed.Goals as goal

pub returns : goal.returns
returns c = record { goes = λ now. host_same now _ _ refl refl; hears = refl }
