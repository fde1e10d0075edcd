use Rattle.nvme_admin.proofs.FurtherLemmas.{regions-dont_matter}
use Rattle.nvme_admin.proofs.laws.regions_dont_matter.Goals as goal

pub returns : goal.returns
returns c = regions-dont_matter
