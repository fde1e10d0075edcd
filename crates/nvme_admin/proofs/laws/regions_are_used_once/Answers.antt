use Rattle.nvme_admin.proofs.LawLemmas.{regions-are_used_once}
use Rattle.nvme_admin.proofs.laws.regions_are_used_once.Goals as goal

pub returns : goal.returns
returns c = regions-are_used_once
