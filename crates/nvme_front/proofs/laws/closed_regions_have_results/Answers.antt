use Rattle.nvme_front.proofs.ClosedRegions.{closed-have_results}
use Rattle.nvme_front.proofs.laws.closed_regions_have_results.Goals as goal

pub returns : goal.returns
returns c = closed-have_results
