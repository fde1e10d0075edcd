use Rattle.std.proofs.Common.{refl}
use Rattle.nvme_occupancy.proofs.laws.worked_stays.Goals as goal

pub returns : goal.returns
returns c = record {
  one = refl;
  all = refl;
  one_is_done = refl;
  none = refl;
  area = refl;
  area_before = refl;
  sojourns = refl;
}
