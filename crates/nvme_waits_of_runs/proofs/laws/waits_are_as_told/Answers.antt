use Rattle.nvme_waits_of_runs.proofs.Models.{waits_are_as_told}
use Rattle.nvme_waits_of_runs.proofs.laws.waits_are_as_told.Goals as goal

pub returns : goal.returns
returns c = waits_are_as_told
