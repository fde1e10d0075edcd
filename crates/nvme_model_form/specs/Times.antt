-- Durations, and the gaps that rates mean, in picoseconds. (profile)
use Rattle.std.specs.Prelude.{ℕ, ℤ, ◌+◌, ◌*◌, ◌/◌, ◌≤◌, ◌&&◌, nat_le, nat_lt, if◌then◌else◌, List, Option, Some, None}
use Rattle.toml.specs.Data.{Data, Members, as_str, as_integer}
use Rattle.nvme_clock.specs.Durations.{duration_in}
use Rattle.nvme_clock.specs.declared.draws.TheConstants.{MAX_MEAN}
use Rattle.nvme_model_form.specs.declared.key.Key.{Key}
use Rattle.nvme_model_form.specs.Readings.{◌>>=◌, accepted, number_in, value_in}

abbrev pub text_duration : Option (List ℕ) → Option ℕ
text_duration None = None
text_duration (Some text) = accepted (duration_in text)

abbrev pub duration_of : Data → Option ℕ
duration_of d = text_duration (as_str d)

abbrev pub duration_at : Key → Members → Option ℕ
duration_at key table = value_in key table >>= duration_of

-- where it is left out, none
abbrev pub optional_duration : Option Data → Option ℕ
optional_duration None = Some 0
optional_duration (Some d) = duration_of d

abbrev pub duration_or_none : Key → Members → Option ℕ
duration_or_none key table = optional_duration (value_in key table)

-- the picoseconds of a second over a rate in commands a second, rounded to the nearest
abbrev pub gap_of_rate : ℕ → ℕ
gap_of_rate rate = (2000000000000 + rate) / (2 * rate)

-- no other whole number of picoseconds is nearer: the gap of each command is at most half a picosecond off
pub record IsNearest (rate gap : ℕ) : Type 0 where
  pub at_most : 2 * (rate * gap) ≤ 2000000000000 + rate
  pub at_least : 2000000000000 ≤ 2 * (rate * gap) + rate

abbrev pub rate_gap : Option ℕ → Option ℕ
rate_gap None = None
rate_gap (Some rate) = Some (gap_of_rate rate)

-- a rate, or a duration
abbrev pub gap_by : Data → Option ℤ → Option ℕ
gap_by d (Some z) = rate_gap (number_in 1 1000000000000 (Some z))
gap_by d None = duration_of d

abbrev pub gap_of : Data → Option ℕ
gap_of d = gap_by d (as_integer d)

-- the mean of exponential times
abbrev pub mean_of : ℕ → Option ℕ
mean_of time = if nat_lt 0 time && nat_le time MAX_MEAN then Some time else None
