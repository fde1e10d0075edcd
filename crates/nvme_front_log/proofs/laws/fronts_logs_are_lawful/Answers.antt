use Rattle.nvme_front_log.proofs.LawfulLogs.{fronts_logs_are_lawful}
use Rattle.nvme_front_log.proofs.laws.fronts_logs_are_lawful.Goals as goal

pub returns : goal.returns
returns c = fronts_logs_are_lawful
