use Rattle.nvme_audit.proofs.LateLemmas.{late_is_faultless}
use Rattle.nvme_audit.proofs.laws.late_is_faultless.Goals as goal

pub returns : goal.returns
returns c = late_is_faultless
