use Rattle.nvme_waits_of_runs.proofs.Served.{none_runs_longer}
use Rattle.nvme_waits_of_runs.proofs.laws.none_runs_longer.Goals as goal

pub returns : goal.returns
returns c = none_runs_longer
