-- Shares, rates and Jain's index of fairness, which cells tell in units of their last digit. (profile)
use Rattle.std.specs.Prelude.{◌≡◌, ◌≤◌, ◌⊎◌, ℕ, ◌+◌, ◌*◌, ◌/◌, ◌^◌, ◌==◌, List, MatchOption, Option, Some, None, if◌then◌else◌, length, nat_lt, sum}
use Rattle.std.specs.List.{sum_by}

-- a quotient, rounded to the nearest whole number, and half a unit up
abbrev pub rounded : ℕ → ℕ → ℕ
rounded above below = (above + below / 2) / below

-- a part of a whole in so many units: none of nothing, or where the numbers have more than 128 bits
abbrev pub quotient_of : (part units whole : ℕ) → Option ℕ
quotient_of part units whole =
    if nat_lt (part * units + whole / 2) (2 ^ 128) then (if whole == 0 then None else Some (rounded (part * units) whole)) else None

abbrev pub IsQuotient : (part units whole : ℕ) → Option ℕ → Type 0
IsQuotient part units whole q = q ≡ quotient_of part units whole

abbrev pub squares_of : List ℕ → ℕ
squares_of parts = sum_by (λ p. p * p) parts

-- Jain's index in ten thousandths, cut off: the square of the sum of parts, divided by their number times the sum of their squares
abbrev pub jain_of : List ℕ → ℕ
jain_of parts = (sum parts * sum parts * 10_000) / (squares_of parts * length parts)

-- parts have no index: none is above 0, or a number of the quotient has more than 128 bits
abbrev pub HasNoJain : List ℕ → Type 0
HasNoJain parts =
    (squares_of parts * length parts ≡ 0) ⊎ ((2 ^ 128 ≤ sum parts * sum parts * 10_000) ⊎ (2 ^ 128 ≤ squares_of parts * length parts))

-- the index of parts, where they have one
abbrev pub IsJain : List ℕ → Option ℕ → Type 0
IsJain parts index = MatchOption index (HasNoJain parts) (λ j. j ≡ jain_of parts)
