use Rattle.nvme_waits_of_runs.proofs.Models.{settings_stay}
use Rattle.nvme_waits_of_runs.proofs.laws.settings_stay_in_force.Goals as goal

pub returns : goal.returns
returns c = settings_stay
