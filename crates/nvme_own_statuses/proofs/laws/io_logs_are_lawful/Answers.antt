use Rattle.nvme_own_statuses.proofs.IoLogs.{io_logs_are_lawful}
use Rattle.nvme_own_statuses.proofs.laws.io_logs_are_lawful.Goals as goal

pub returns : goal.returns
returns c = io_logs_are_lawful
