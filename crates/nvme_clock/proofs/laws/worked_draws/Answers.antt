use Rattle.std.proofs.Common.{refl}
use Rattle.rand_core.specs.Steps.{stream_of}
use Rattle.rand_core.specs.Stream.{next_u64}
use Rattle.nvme_clock.specs.Draws.{exponential_from, run_from, uniform_from}
use Rattle.nvme_clock.proofs.laws.worked_draws.Goals as goal

pub returns : goal.returns
unfolding stream_of next_u64 exponential_from run_from uniform_from
returns c = record {
  run_of_one = refl;
  run_of_two = refl;
  run_of_three = refl;
  remainder = refl;
  rejected = refl;
  lowest = refl;
  between = refl;
  at_one = refl;
  between_others = refl;
  highest = refl;
}
