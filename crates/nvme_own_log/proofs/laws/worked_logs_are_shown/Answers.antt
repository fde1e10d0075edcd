use Rattle.nvme_own_log.proofs.ExampleLogs.{deletion_is, passes_are, deletion_faultless, passes_faultless}
use Rattle.nvme_own_log.proofs.laws.worked_logs_are_shown.Goals as goal

pub returns : goal.returns
returns c = record { deletion = deletion_is; two_passes = passes_are; deletion_faultless = deletion_faultless; passes_faultless = passes_faultless }
