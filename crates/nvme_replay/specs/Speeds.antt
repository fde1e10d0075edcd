-- How many times as fast as in its file a list comes. (profile)
use Rattle.std.specs.Prelude.{ℕ, ◌+◌, ◌-◌, ◌*◌, ◌/◌, ◌==◌, nat_lt, if◌then◌else◌, List, [], ◌∷◌, length, Option, Some, None}
use Rattle.std.specs.Char.{is_ascii_digit}
use Rattle.nvme_load.specs.Times.{fitting}
use Rattle.nvme_replay.specs.declared.speed.Fraction.{Fraction}
use Rattle.nvme_replay.specs.Texts.{Text, around_point, number_in}

-- a time at a speed: a whole of it takes the time of so many parts. Rounded down, where that is below 2^64
abbrev pub at_speed : Fraction → (time : ℕ) → Option ℕ
at_speed f time = fitting (time * f.whole / f.parts)

-- each digit behind the point makes ten times as many parts, and what it counts, of ten times as large a whole. Both are below 2^64
abbrev pub fraction_from : (parts whole : ℕ) → Text → Option Fraction
fraction_from parts whole [] = Some (record { parts = parts; whole = whole })
fraction_from parts whole (c ∷ cs) =
    if is_ascii_digit c
    then (if nat_lt (parts * 10 + (c - 48)) 0x1_0000_0000_0000_0000
    then (if nat_lt (whole * 10) 0x1_0000_0000_0000_0000 then fraction_from (parts * 10 + (c - 48)) (whole * 10) cs else None)
    else None)
    else None

abbrev pub fraction_behind : Option ℕ → Text → Option Fraction
fraction_behind None digits = None
fraction_behind (Some parts) digits = fraction_from parts 1 digits

-- digits, or digits, a point and digits
abbrev pub fraction_around : Text → Option (Text × Text) → Option Fraction
fraction_around text None = fraction_behind (number_in text) []
fraction_around text (Some (before, behind)) = if length behind == 0 then None else fraction_behind (number_in before) behind

abbrev pub fraction_in : Text → Option Fraction
fraction_in text = fraction_around text (around_point text)

-- and above 0
abbrev pub above_zero : Option Fraction → Option Fraction
above_zero None = None
above_zero (Some f) = if f.parts == 0 then None else Some f

abbrev pub speed_in : Text → Option Fraction
speed_in text = above_zero (fraction_in text)

-- a whole number of times as fast
abbrev pub whole_speed : ℕ → Option Fraction
whole_speed times = above_zero (Some (record { parts = times; whole = 1 }))
