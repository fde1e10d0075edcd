-- What a cell says, and its text. (profile)
use Rattle.std.specs.Prelude.{Bool, false, true, ℕ, ◌-◌, ◌/◌, ◌%◌, List, Option, Some, None, ◌++◌, length, codes, decimal, replicate}
use Rattle.nvme_cells.specs.declared.cell.Cell.{Cell}
use Rattle.nvme_cells.specs.declared.cell.Cell.TheVariants.{Empty, Word, Flag, Number, Decimal, Percent}
use Rattle.nvme_cells.specs.declared.cell.Places.{Places}
use Rattle.nvme_cells.specs.declared.cell.Places.TheVariants.{Two, Three, Four, Five, Six}

-- nothing, a text, whether it is so, a whole number, or so many units of the last of the digits behind the point
pub data Value : Type 0 where
  Nothing : Value
  Text : (text : List ℕ) → Value
  Truth : Bool → Value
  Whole : ℕ → Value
  Fraction : (units : ℕ) → Places → Value
  Percentage : (units : ℕ) → Places → Value

abbrev pub value_of : Cell → Value
value_of Empty = Nothing
value_of (Word word) = Text word.now
value_of (Flag flag) = Truth flag
value_of (Number n) = Whole n
value_of (Decimal units places) = Fraction units places
value_of (Percent units places) = Percentage units places

-- what there is, or nothing
abbrev pub whole_of : Option ℕ → Value
whole_of (Some n) = Whole n
whole_of None = Nothing

abbrev pub fraction_of : Places → Option ℕ → Value
fraction_of places (Some units) = Fraction units places
fraction_of places None = Nothing

abbrev pub percentage_of : Places → Option ℕ → Value
percentage_of places (Some units) = Percentage units places
percentage_of places None = Nothing

-- how many digits stand behind the point, and how many units of the last one make a whole
abbrev pub digits_of : Places → ℕ
digits_of Two = 2
digits_of Three = 3
digits_of Four = 4
digits_of Five = 5
digits_of Six = 6

abbrev pub scale_of : Places → ℕ
scale_of Two = 100
scale_of Three = 1_000
scale_of Four = 10_000
scale_of Five = 100_000
scale_of Six = 1_000_000

-- the digits behind the point, with the zeros before them
abbrev pub behind_text : ℕ → Places → List ℕ
behind_text part places = replicate (digits_of places - length (decimal part)) 48 ++ decimal part

abbrev pub fraction_text : (units : ℕ) → Places → List ℕ
fraction_text units places = decimal (units / scale_of places) ++ (codes "." ++ behind_text (units % scale_of places) places)

abbrev pub flag_text : Bool → List ℕ
flag_text true = codes "true"
flag_text false = codes "false"

-- with what stands for nothing, and behind a percentage
abbrev pub value_text : (none percent : List ℕ) → Value → List ℕ
value_text none percent Nothing = none
value_text none percent (Text text) = text
value_text none percent (Truth flag) = flag_text flag
value_text none percent (Whole n) = decimal n
value_text none percent (Fraction units places) = fraction_text units places
value_text none percent (Percentage units places) = fraction_text units places ++ percent
