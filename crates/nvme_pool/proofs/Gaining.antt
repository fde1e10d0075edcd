-- A result is got from one of several ends.
use Rattle.std.proofs.Common.{◌≡◌, ℕ, ◌+◌, ◌<◌, [], ◌∷◌, ◌++◌, length, get_or, set, take, drop, sym, ap, ◌∙◌, subst, add-one, drop-cons}
use Rattle.std.proofs.lemmas.List.{take-append-drop, take-set, drop-set, set-get_or, take_more}
use Rattle.std.proofs.lemmas.List.Elements.{All-push}
use Rattle.std.specs.List.{All}
use Rattle.nvme_lane.specs.View.{GetView, SameGet}
use Rattle.nvme_pool.specs.declared.jobs.Finished.{Finished}
use Rattle.nvme_pool.specs.Place.{get_place}
use Rattle.nvme_pool.specs.Seat.{Ends, IsUnknown, OneGained, rings_at}

-- x was the first that was known, where something was, and the rest is known still
abbrev pub Follows : GetView Finished → Finished → GetView Finished → Type 0
Follows g x g' = 0 < length g.known → g.known ≡ x ∷ g'.known

pub gained_at : (ends : Ends) (i : ℕ) (d g' : GetView Finished) (x : Finished) → i < length ends → All IsUnknown (take i ends)
    → SameGet (get_or ends i d) g' → g'.got ≡ (get_or ends i d).got ++ x ∷ [] → Follows (get_or ends i d) x g' → OneGained ends (set ends i g') x
gained_at ends i d g' x within unknown same got known = record {
  before = take i ends;
  end = get_or ends i d;
  after = drop (i + 1) ends;
  end' = g';
  were = sym (take-append-drop i ends) ∙ ap (λ xs. take i ends ++ xs) (rw add-one (drop-cons ends i d within));
  are = sym (take-append-drop i (set ends i g')) ∙ ap (λ xs. xs ++ drop i (set ends i g')) (take-set ends i g') ∙ ap (λ xs. take i ends ++ xs) (drop-set ends i g' within);
  none_before = unknown;
  same = same;
  got = got;
  known = known;
}

-- the same, where the list goes by another name
pub gained_from : (old now : Ends) (i : ℕ) (d g' : GetView Finished) (x : Finished) → now ≡ old → i < length old → All IsUnknown (take i old)
    → SameGet (get_or now i d) g' → g'.got ≡ (get_or now i d).got ++ x ∷ [] → Follows (get_or now i d) x g' → OneGained old (set now i g') x
gained_from old now i d g' x is within unknown same got known =
    let P : Ends → Type 0 = λ ends. OneGained old (set ends i g') x in
    let Q : Ends → Type 0 = λ ends. SameGet (get_or ends i d) g' in
    let R : Ends → Type 0 = λ ends. g'.got ≡ (get_or ends i d).got ++ x ∷ [] in
    let S : Ends → Type 0 = λ ends. Follows (get_or ends i d) x g' in
    subst P (sym is) (gained_at old i d g' x within unknown (subst Q is same) (subst R is got) (subst S is known))

-- an end that gave nothing is put back
pub kept_at : (old now : Ends) (i : ℕ) (d g' : GetView Finished) → now ≡ old → g' ≡ get_or now i d → set now i g' ≡ old
kept_at old now i d g' is unchanged = ap (λ g. set now i g) unchanged ∙ set-get_or now i d ∙ is

pub unknown_more : (old now : Ends) (i : ℕ) (d : GetView Finished) → now ≡ old → i < length old → (get_or now i d).known ≡ [] → All IsUnknown (take i old) → All IsUnknown (take (i + 1) old)
unknown_more old now i d is within none unknown =
    let P : Ends → Type 0 = λ ends. (get_or ends i d).known ≡ [] in
    subst (All IsUnknown) (sym (take_more old i d within)) (All-push IsUnknown (take i old) (get_or old i d) unknown (subst P is none))
