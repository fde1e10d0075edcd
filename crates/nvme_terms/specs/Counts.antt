-- Counts of things in words. (profile)
use Rattle.std.specs.Prelude.{ℕ, ◌==◌, List, ◌++◌, codes, decimal, if◌then◌else◌}

-- a noun behind a number has an s, but behind 1
abbrev pub plural_text : ℕ → List ℕ
plural_text number = if number == 1 then codes "" else codes "s"

abbrev pub counted_text : (number : ℕ) → (name : List ℕ) → List ℕ
counted_text number name = decimal number ++ (codes " " ++ (name ++ plural_text number))
