use Rattle.nvme_audit.proofs.CoverageLemmas.{broken_is_asked}
use Rattle.nvme_audit.proofs.laws.broken_is_asked.Goals as goal

pub returns : goal.returns
returns c = broken_is_asked
