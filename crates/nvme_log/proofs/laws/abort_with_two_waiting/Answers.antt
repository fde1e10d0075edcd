use Rattle.nvme_log.proofs.AbortLogs.{two_aborts_account}
use Rattle.nvme_log.proofs.laws.abort_with_two_waiting.Goals as goal

pub returns : goal.returns
returns c = record { accounted = two_aborts_account }
