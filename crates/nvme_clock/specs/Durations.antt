-- What the text of a duration means, in whole picoseconds. (profile)
use Rattle.std.specs.Prelude.{ℕ, ◌+◌, ◌-◌, ◌*◌, ◌/◌, ◌==◌, ◌&&◌, ◌||◌, not, Bool, nat_lt, if◌then◌else◌, List, [], ◌∷◌, length, take, drop, Option, Some, None, Result, Ok, Err, codes, position, unwrap_or}
use Rattle.std.specs.Char.{is_ascii_digit}
use Rattle.std.specs.Str.{bytes_eq}
use Rattle.nvme_clock.specs.declared.durations.DurationFault.{DurationFault}
use Rattle.nvme_clock.specs.declared.durations.DurationFault.TheVariants as fault

abbrev pub Text : Type 0
Text = List ℕ

-- the picoseconds of a unit
abbrev pub unit_in : Text → Option ℕ
unit_in text =
    if bytes_eq text (codes "ps") then Some 1
    else (if bytes_eq text (codes "ns") then Some 1_000
    else (if bytes_eq text (codes "us") then Some 1_000_000
    else (if bytes_eq text (codes "ms") then Some 1_000_000_000
    else (if bytes_eq text (codes "s") then Some 1_000_000_000_000
    else None))))

-- the number that digits write behind those of n
abbrev pub number_from : ℕ → Text → Result ℕ DurationFault
number_from n [] = Ok n
number_from n (c ∷ cs) =
    if is_ascii_digit c
    then (if nat_lt (n * 10 + (c - 48)) 0x1_0000_0000_0000_0000 then number_from (n * 10 + (c - 48)) cs
    else Err fault.TooLong)
    else Err fault.Digits

-- one digit or more
abbrev pub number_in : Text → Result ℕ DurationFault
number_in digits = if length digits == 0 then Err fault.Digits else number_from 0 digits

-- where a digit counts these picoseconds, any but 0 makes no whole number of them
abbrev pub is_finer : ℕ → ℕ → Bool
is_finer digit place = not (digit == 48) && (place == 0)

-- digits behind the point add to a duration: each counts a tenth of the one before it
abbrev pub part_from : ℕ → ℕ → Text → Result ℕ DurationFault
part_from unit sum [] = Ok sum
part_from unit sum (c ∷ cs) =
    if is_ascii_digit c
    then (if is_finer c (unit / 10) then Err fault.Part
    else (if nat_lt ((c - 48) * (unit / 10) + sum) 0x1_0000_0000_0000_0000 then part_from (unit / 10) ((c - 48) * (unit / 10) + sum) cs
    else Err fault.TooLong))
    else Err fault.Digits

-- a number of units
abbrev pub units : ℕ → Result ℕ DurationFault → Result ℕ DurationFault
units unit (Err e) = Err e
units unit (Ok n) = if nat_lt (n * unit) 0x1_0000_0000_0000_0000 then Ok (n * unit) else Err fault.TooLong

abbrev pub with_part : ℕ → Text → Result ℕ DurationFault → Result ℕ DurationFault
with_part unit digits (Err e) = Err e
with_part unit digits (Ok whole) = if length digits == 0 then Err fault.Digits else part_from unit whole digits

abbrev pub around_point : ℕ → Text → Option ℕ → Result ℕ DurationFault
around_point unit text None = units unit (number_in text)
around_point unit text (Some i) = with_part unit (drop (i + 1) text) (units unit (number_in (take i text)))

abbrev pub is_point : ℕ → Bool
is_point c = c == 46

-- digits, or digits, a point and digits, where 1 counts a unit
abbrev pub number_of : ℕ → Text → Result ℕ DurationFault
number_of unit text = around_point unit text (position is_point text)

abbrev pub with_unit : Text → Option ℕ → Result ℕ DurationFault
with_unit number None = Err fault.Unit
with_unit number (Some unit) = number_of unit number

-- the unit stands right behind digits and points
abbrev pub is_of_unit : ℕ → Bool
is_of_unit c = not (is_ascii_digit c || is_point c)

abbrev pub unit_place : Text → ℕ
unit_place text = unwrap_or (position is_of_unit text) (length text)

abbrev pub duration_in : Text → Result ℕ DurationFault
duration_in text = with_unit (take (unit_place text) text) (unit_in (drop (unit_place text) text))
