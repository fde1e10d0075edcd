use Rattle.nvme_log.proofs.LoadedLaws.{loaded_log_is_one}
use Rattle.nvme_log.proofs.laws.loaded_log_is_one.Goals as goal

pub returns : goal.returns
returns c = loaded_log_is_one
