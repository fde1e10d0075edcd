use Rattle.nvme_audit.proofs.RepairLemmas.{first_told}
use Rattle.nvme_audit.proofs.laws.first_breach_is_told.Goals as goal

pub returns : goal.returns
returns c = first_told
