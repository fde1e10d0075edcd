use Rattle.std.proofs.Common.{refl}
use Rattle.nvme_waits.proofs.laws.worked_bounds.Goals as goal

pub returns : goal.returns
returns c = record {
  four_channels = refl;
  depth_of_two = refl;
  none_before = refl;
  urgent = refl;
  striped = refl;
  pausing = refl;
  greatest = refl;
  greatest_of_none = refl;
}
