use Rattle.nvme_log.proofs.Prefixes.{accounted}
use Rattle.nvme_log.proofs.laws.prefixes_are_accounted.Goals as goal

pub returns : goal.returns
returns c = accounted
