use Rattle.nvme_log.proofs.PickedOnce.{picked_once}
use Rattle.nvme_log.proofs.laws.no_place_is_picked_twice.Goals as goal

pub returns : goal.returns
returns c = picked_once
