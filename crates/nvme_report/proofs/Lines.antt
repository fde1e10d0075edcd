-- A line that is put together part by part.
use Rattle.std.proofs.Common.{◌≡◌, ◌∙◌, ℕ, List, [], ◌∷◌, ◌++◌, sym}
use Rattle.std.proofs.lemmas.List.{append-nil, append_assoc}
use Rattle.std.specs.List.{concat}

-- the parts behind what came before
abbrev pub joined : List ℕ → List (List ℕ) → List ℕ
joined old [] = old
joined old (p ∷ ps) = joined (old ++ p) ps

pub joined_is : (old : List ℕ) (ps : List (List ℕ)) → joined old ps ≡ old ++ concat ps
joined_is old [] = sym (append-nil old)
joined_is old (p ∷ ps) = joined_is (old ++ p) ps ∙ append_assoc old p (concat ps)
