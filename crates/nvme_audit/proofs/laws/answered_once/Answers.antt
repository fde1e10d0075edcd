use Rattle.nvme_audit.proofs.OnceLemmas.{once}
use Rattle.nvme_audit.proofs.laws.answered_once.Goals as goal

pub returns : goal.returns
returns c = once
