use Rattle.nvme_runs.proofs.LoadedRuns.{loaded_runs_are_one}
use Rattle.nvme_runs.proofs.laws.loaded_runs_are_one.Goals as goal

pub returns : goal.returns
returns c = loaded_runs_are_one
