use Rattle.std.proofs.Common.{refl}
use Rattle.nvme_clock.proofs.laws.worked_durations.Goals as goal

pub returns : goal.returns
returns c = record {
  microseconds = refl;
  with_point = refl;
  smallest = refl;
  zeros = refl;
  longest = refl;
  longest_days = refl;
  too_long = refl;
  too_long_part = refl;
  half_picosecond = refl;
  finer = refl;
  no_unit = refl;
  other_unit = refl;
  space = refl;
  sign = refl;
  no_digit = refl;
  no_digit_before = refl;
  no_digit_behind = refl;
  two_points = refl;
}
