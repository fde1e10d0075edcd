use Rattle.nvme_audit.proofs.ShowsLemmas.{less_is_faultless}
use Rattle.nvme_audit.proofs.laws.less_is_faultless.Goals as goal

pub returns : goal.returns
returns c = less_is_faultless
