use Rattle.std.proofs.Common.{refl}
use Rattle.nvme_points.proofs.laws.worked_points.Goals as goal

pub returns : goal.returns
returns c = record {
  six = refl;
  no_key = refl;
  first = refl;
  fastest = refl;
  slower = refl;
  last = refl;
}
