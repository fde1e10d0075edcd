use Rattle.std.proofs.Common.{refl}
use Rattle.nvme_replay.proofs.laws.worked_speeds.Goals as goal

pub returns : goal.returns
returns c = record {
  two = refl;
  half = refl;
  one_and_a_quarter = refl;
  zero = refl;
  no_part = refl;
  nothing_behind = refl;
  nothing_before = refl;
  two_points = refl;
  sign = refl;
  no_text = refl;
  greatest = refl;
  too_great = refl;
  whole = refl;
  no_whole = refl;
  at_double = refl;
  at_half = refl;
  last = refl;
  too_late = refl;
}
