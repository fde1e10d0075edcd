use Rattle.std.proofs.Common.{refl}
use Rattle.nvme_channels.specs.Runs.{device_after, last_end, runs_on}
use Rattle.nvme_channels.proofs.laws.worked_pools.Goals as goal

pub returns : goal.returns
unfolding device_after runs_on last_end
returns c = record {
  first = refl;
  second = refl;
  third = refl;
  fourth = refl;
  room_at_first = refl;
  room_for_one = refl;
  no_room = refl;
  room_again = refl;
  next_starts = refl;
  none_waits = refl;
  before_its_end = refl;
  none_runs = refl;
  third_channel = refl;
  busy = refl;
  ran = refl;
  other_ran = refl;
  ends = refl;
  longest = refl;
  too_late = refl;
  time_that_passed = refl;
}
