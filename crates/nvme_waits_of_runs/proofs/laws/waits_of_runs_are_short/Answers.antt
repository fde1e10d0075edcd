use Rattle.nvme_waits_of_runs.proofs.Waits.{waits_of_runs_are_short}
use Rattle.nvme_waits_of_runs.proofs.laws.waits_of_runs_are_short.Goals as goal

pub returns : goal.returns
returns c = waits_of_runs_are_short
