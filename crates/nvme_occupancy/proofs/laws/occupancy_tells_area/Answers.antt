use Rattle.nvme_occupancy.proofs.Little.{tells}
use Rattle.nvme_occupancy.proofs.laws.occupancy_tells_area.Goals as goal

pub returns : goal.returns
returns c = tells
