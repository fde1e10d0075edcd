-- What a function that writes a text leaves in its writer, where the writer tells its bytes (profile).
use Rattle.std.specs.Prelude.{ℕ, List, Option, Result, MatchResult}
use Rattle.std.specs.Io.KnownBytes.{Appends}
use mathlib.Core.List.{IsPrefix}

-- known bytes grow by some prefix of a text
abbrev pub AppendsPrefix : Option (List ℕ) → Option (List ℕ) → List ℕ → Type 0
AppendsPrefix old new text = (prefix : List ℕ) × Appends old new prefix × IsPrefix prefix text

-- at `Ok` the known bytes grew by the text, and at `Err` by a prefix of it
abbrev pub Writes : {T E : Type 0} → Option (List ℕ) → Option (List ℕ) → Result T E → List ℕ → Type 0
Writes old new result text = MatchResult result (λ _. Appends old new text) (λ _. AppendsPrefix old new text)
