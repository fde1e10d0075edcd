use Rattle.nvme_log.proofs.LoadedExamples.{empty_loaded, unserved_loaded}
use Rattle.nvme_log.proofs.laws.loaded_logs_can_be_empty.Goals as goal

pub returns : goal.returns
returns c = record { nothing_submitted = empty_loaded; never_opened = unserved_loaded }
