-- What the text of a load says. (profile)
use Rattle.std.specs.Prelude.{ℕ, ◌+◌, ◌-◌, ◌*◌, ◌==◌, ◌||◌, min, nat_lt, if◌then◌else◌, List, [], ◌∷◌, length, Option, Some, None, Result, Ok, Err}
use Rattle.std.specs.Char.{is_ascii_digit}
use Rattle.std.specs.List.{after_first, before_first, position_or_len}
use Rattle.nvme_simulate.specs.declared.target.LoadFault.{LoadFault}
use Rattle.nvme_simulate.specs.declared.target.LoadFault.TheVariants as fault
use Rattle.nvme_simulate.specs.declared.target.TheConstants.{MAX_LOAD}

abbrev pub Text : Type 0
Text = List ℕ

-- the parts of a text around its first point
abbrev pub around_point : Text → Option (Text × Text)
around_point text =
    if nat_lt (position_or_len (λ b. b == 46) text) (length text) then Some (before_first (λ b. b == 46) text, after_first (λ b. b == 46) text)
    else None

-- reckoned in 64 bits: a greater number is taken for the greatest of these. Each of those is too great for a load
abbrev pub cut_off_64 : ℕ → ℕ
cut_off_64 n = min n 0xffff_ffff_ffff_ffff

-- the number that digits write behind those of n
abbrev pub number_from : (n : ℕ) → Text → Option ℕ
number_from n [] = Some n
number_from n (c ∷ cs) = if is_ascii_digit c then number_from (cut_off_64 (n * 10 + (c - 48))) cs else None

-- one digit or more
abbrev pub number_in : Text → Option ℕ
number_in digits = if length digits == 0 then None else number_from 0 digits

-- what the last of so many digits behind a point counts, in millionths: they are one to six
abbrev pub unit_behind : (count : ℕ) → Option ℕ
unit_behind count =
    if count == 1 then Some 100_000
    else (if count == 2 then Some 10_000
    else (if count == 3 then Some 1_000
    else (if count == 4 then Some 100
    else (if count == 5 then Some 10
    else (if count == 6 then Some 1
    else None)))))

-- so many of a unit
abbrev pub units_of : Option ℕ → Option ℕ → Option ℕ
units_of None unit = None
units_of (Some n) None = None
units_of (Some n) (Some unit) = Some (cut_off_64 (n * unit))

-- with as many behind the point
abbrev pub both_of : Option ℕ → Option ℕ → Option ℕ
both_of None part = None
both_of (Some whole) None = None
both_of (Some whole) (Some part) = Some (cut_off_64 (whole + part))

-- in millionths: digits, or digits, a point and one to six digits
abbrev pub millionths_around : Text → Option (Text × Text) → Option ℕ
millionths_around text None = units_of (number_in text) (Some 1_000_000)
millionths_around text (Some (before, behind)) =
    both_of (units_of (number_in before) (Some 1_000_000)) (units_of (number_in behind) (unit_behind (length behind)))

abbrev pub millionths_in : Text → Option ℕ
millionths_in text = millionths_around text (around_point text)

-- above 0 and at most the greatest load
abbrev pub within_range : Option ℕ → Result ℕ LoadFault
within_range None = Err fault.Digits
within_range (Some n) = if n == 0 || nat_lt MAX_LOAD n then Err fault.Range else Ok n

abbrev pub load_in : Text → Result ℕ LoadFault
load_in text = within_range (millionths_in text)
