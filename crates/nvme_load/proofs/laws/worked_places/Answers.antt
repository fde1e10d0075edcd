use Rattle.std.proofs.Common.{refl}
use Rattle.rand_core.specs.Steps.{stream_of}
use Rattle.rand_core.specs.Stream.{next_u64}
use Rattle.nvme_clock.specs.Draws.{uniform_from}
use Rattle.nvme_load.specs.Places.{sequential_place}
use Rattle.nvme_load.proofs.laws.worked_places.Goals as goal

pub returns : goal.returns
unfolding stream_of next_u64 uniform_from sequential_place
returns c = record {
  first = refl;
  second = refl;
  last = refl;
  rejected = refl;
  next_draw = refl;
  behind = refl;
  draws_nothing = refl;
  just_fits = refl;
  wraps = refl;
  whole_namespace = refl;
  begins = refl;
  twelfth = refl;
  thirteenth = refl;
}
