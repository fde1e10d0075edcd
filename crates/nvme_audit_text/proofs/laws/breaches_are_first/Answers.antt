use Rattle.nvme_audit_text.proofs.FirstLemmas.{first}
use Rattle.nvme_audit_text.proofs.laws.breaches_are_first.Goals as goal

pub returns : goal.returns
returns c = first
