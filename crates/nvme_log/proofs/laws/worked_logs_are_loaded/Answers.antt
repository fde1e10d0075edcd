use Rattle.nvme_log.proofs.LoadedExamples.{deletion_loaded, aborts_loaded, small_loaded}
use Rattle.nvme_log.proofs.laws.worked_logs_are_loaded.Goals as goal

pub returns : goal.returns
returns c = record { deletion = deletion_loaded; aborts = aborts_loaded; windows = small_loaded }
