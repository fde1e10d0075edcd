use Rattle.std.proofs.Common.{refl}
use Rattle.rand_core.specs.Steps.{stream_of}
use Rattle.rand_core.specs.Stream.{next_u64}
use Rattle.nvme_clock.specs.Draws.{exponential_from, run_from}
use Rattle.nvme_load.specs.Counts.{count_below}
use Rattle.nvme_load.proofs.laws.worked_arrivals.Goals as goal

pub returns : goal.returns
unfolding stream_of next_u64 exponential_from run_from count_below
returns c = record {
  on_before_first = refl;
  on_before_off = refl;
  on_before_second = refl;
  on_before_later = refl;
  on_at_first = refl;
  on_at_second = refl;
  on_at_later = refl;
  within_phase = refl;
  at_next_phase = refl;
  within_next_phase = refl;
  from_off_phase = refl;
  on_off_next = refl;
  poisson = refl;
  poisson_next = refl;
  every_seventh = refl;
  regular_draws_nothing = refl;
  last_time = refl;
  too_late = refl;
  think = refl;
  think_draws_nothing = refl;
  depth_at_start = refl;
  on_off_start = refl;
  poisson_start = refl;
  regular_start = refl;
  first_listed = λ l is. rw is refl;
  second_listed = λ l is. rw is refl;
  last_listed = λ l is. rw is refl;
  list_ended = λ l is. rw is refl;
  second_request = λ l is. rw is refl;
  not_ended = λ l is. rw is refl;
  ended = λ l is. rw is refl;
  lists_draw_nothing = λ l. refl;
}
