use Rattle.nvme_admin.proofs.LawLemmas.{numbers-stay_fixed}
use Rattle.nvme_admin.proofs.laws.numbers_stay_fixed.Goals as goal

pub returns : goal.returns
returns c = numbers-stay_fixed
