use Rattle.nvme_log.proofs.ExampleLogs.{deletion_account, deletion_starts}
use Rattle.nvme_log.proofs.laws.delete_with_three_waiting.Goals as goal

pub returns : goal.returns
returns c = record { accounted = deletion_account; starts = deletion_starts }
