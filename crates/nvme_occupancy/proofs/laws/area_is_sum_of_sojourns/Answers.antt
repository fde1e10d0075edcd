use Rattle.nvme_occupancy.proofs.Little.{little}
use Rattle.nvme_occupancy.proofs.laws.area_is_sum_of_sojourns.Goals as goal

pub returns : goal.returns
returns c = little
