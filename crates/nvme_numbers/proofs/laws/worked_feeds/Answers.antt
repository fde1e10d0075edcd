use Rattle.std.proofs.Common.{refl}
use Rattle.nvme_numbers.specs.Feeding.{came_in, done_in, fed_in, first_in, last_in}
use Rattle.nvme_numbers.proofs.laws.worked_feeds.Goals as goal

pub returns : goal.returns
unfolding came_in last_in first_in done_in fed_in
returns c = record {
  began = refl;
  last = refl;
  time = refl;
  first_queue = refl;
  second_queue = refl;
  bytes = refl;
  done = refl;
  one_more = refl;
  no_more = refl;
  no_warm_up = refl;
  none_counts = refl;
  none_fed = refl;
}
