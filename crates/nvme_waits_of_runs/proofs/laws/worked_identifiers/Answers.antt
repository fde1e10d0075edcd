use Rattle.nvme_waits_of_runs.proofs.Models.{ids_are_counted}
use Rattle.nvme_waits_of_runs.proofs.laws.worked_identifiers.Goals as goal

pub returns : goal.returns
returns c = ids_are_counted
