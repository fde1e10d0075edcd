-- The points of a sweep: the combinations of the values of its keys, in order. Lists begin with the key that is fastest. (profile)
use Rattle.std.specs.Prelude.{◌≡◌, ◌<◌, ℕ, ◌+◌, ◌*◌, ◌/◌, ◌%◌, List, [], ◌∷◌}

-- how many combinations keys of so many values have
abbrev pub count_of : List ℕ → ℕ
count_of [] = 1
count_of (n ∷ ns) = count_of ns * n

-- which value of each key a point has
abbrev pub choices_of : List ℕ → ℕ → List ℕ
choices_of [] point = []
choices_of (n ∷ ns) point = point % n ∷ choices_of ns (point / n)

-- the place of a combination among all, of which the one with the smaller value of the slowest key that differs comes first
abbrev pub place_of : List ℕ → List ℕ → ℕ
place_of [] choices = 0
place_of (n ∷ ns) [] = 0
place_of (n ∷ ns) (d ∷ ds) = place_of ns ds * n + d

-- a value of each key
pub data IsChoice : List ℕ → List ℕ → Type 0 where
  none : IsChoice [] []
  more : {n d : ℕ} {ns ds : List ℕ} → d < n → IsChoice ns ds → IsChoice (n ∷ ns) (d ∷ ds)

-- each point is a combination, which stands at its place, and each combination is the point at its place
pub record AreAll (ns : List ℕ) : Type 0 where
  pub choice : (point : ℕ) → point < count_of ns → IsChoice ns (choices_of ns point)
  pub place : (point : ℕ) → point < count_of ns → place_of ns (choices_of ns point) ≡ point
  pub within : (choices : List ℕ) → IsChoice ns choices → place_of ns choices < count_of ns
  pub each : (choices : List ℕ) → IsChoice ns choices → choices_of ns (place_of ns choices) ≡ choices
