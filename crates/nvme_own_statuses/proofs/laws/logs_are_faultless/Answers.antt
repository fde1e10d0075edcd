use Rattle.nvme_own_statuses.proofs.LawfulLogs.{logs_are_faultless}
use Rattle.nvme_own_statuses.proofs.laws.logs_are_faultless.Goals as goal

pub returns : goal.returns
returns c = logs_are_faultless
