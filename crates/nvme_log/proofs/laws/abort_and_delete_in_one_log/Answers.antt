use Rattle.nvme_log.proofs.AbortLogs.{abort_and_delete_account}
use Rattle.nvme_log.proofs.laws.abort_and_delete_in_one_log.Goals as goal

pub returns : goal.returns
returns c = record { accounted = abort_and_delete_account }
