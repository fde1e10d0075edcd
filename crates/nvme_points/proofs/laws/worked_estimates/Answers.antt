use Rattle.std.proofs.Common.{refl}
use Rattle.nvme_points.specs.Estimates.{differences_from}
use native.Mathlib.Omega.{arith}
use Rattle.nvme_points.proofs.laws.worked_estimates.Goals as goal

pub returns : goal.returns
unfolding differences_from
returns c = record {
  pairs = refl;
  same = refl;
  error = refl;
  half = record {
    quantile = 4_302_653;
    quantile_is = refl;
    error = 2_081_665;
    error_is = record { least = omega arith; most = omega arith };
    half_is = refl;
  };
}
