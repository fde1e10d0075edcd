use Rattle.std.proofs.Common.{refl}
use Rattle.rand_core.specs.Steps.{stream_of}
use Rattle.rand_core.specs.Stream.{next_u64}
use Rattle.nvme_clock.specs.Draws.{exponential_from, run_from, uniform_from}
use Rattle.nvme_load.proofs.laws.worked_services.Goals as goal

pub returns : goal.returns
unfolding stream_of next_u64 exponential_from run_from uniform_from
returns c = record {
  fixed_time = refl;
  fixed_draws_nothing = refl;
  exponential_time = refl;
  exponential_next = refl;
  usual = refl;
  rare = refl;
  next_draw = refl;
  from_quantiles = λ table is. rw is refl;
  quantiles_next = λ table. refl;
  longest_time = refl;
  too_long = refl;
  read = refl;
  write = refl;
  flush = refl;
  flush_next = refl;
}
