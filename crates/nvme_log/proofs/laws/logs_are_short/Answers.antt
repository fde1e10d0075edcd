use Rattle.nvme_log.proofs.LogLengths.{logs_are_short}
use Rattle.nvme_log.proofs.laws.logs_are_short.Goals as goal

pub returns : goal.returns
returns c = logs_are_short
