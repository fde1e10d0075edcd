-- What the digits of a text write. (profile)
use Rattle.std.specs.Prelude.{ℕ, ◌+◌, ◌-◌, ◌*◌, ◌==◌, nat_lt, if◌then◌else◌, List, [], ◌∷◌, length, Option, Some, None}
use Rattle.std.specs.Char.{is_ascii_digit}
use Rattle.std.specs.List.{after_first, before_first, position_or_len}

abbrev pub Text : Type 0
Text = List ℕ

-- the number that digits write behind those of n, where it is below 2^64
abbrev pub number_from : (n : ℕ) → Text → Option ℕ
number_from n [] = Some n
number_from n (c ∷ cs) =
    if is_ascii_digit c
    then (if nat_lt (n * 10 + (c - 48)) 0x1_0000_0000_0000_0000 then number_from (n * 10 + (c - 48)) cs else None)
    else None

-- one digit or more
abbrev pub number_in : Text → Option ℕ
number_in digits = if length digits == 0 then None else number_from 0 digits

-- the parts of a text around the first point
abbrev pub around_point : Text → Option (Text × Text)
around_point text =
    if nat_lt (position_or_len (λ b. b == 46) text) (length text) then Some (before_first (λ b. b == 46) text, after_first (λ b. b == 46) text)
    else None
