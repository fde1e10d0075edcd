use Rattle.std.proofs.Common.{refl}
use Rattle.nvme_clock.proofs.laws.worked_events.Goals as goal

pub returns : goal.returns
returns c = record {
  earliest = refl;
  pushed_first = refl;
  pushed_later = refl;
  none = refl;
  time = refl;
}
