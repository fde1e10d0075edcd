use Rattle.nvme_admin.proofs.LawLemmas.{placing-stays}
use Rattle.nvme_admin.proofs.laws.placing_stays.Goals as goal

pub returns : goal.returns
returns c = placing-stays
