use Rattle.nvme_bounds.proofs.Refills.{ends_make_room}
use Rattle.nvme_bounds.proofs.laws.ends_make_room.Goals as goal

pub returns : goal.returns
returns c = ends_make_room
