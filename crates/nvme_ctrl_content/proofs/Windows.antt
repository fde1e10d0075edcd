-- The window of a region against the places that wait.
use Rattle.std.proofs.Common.{◌≡◌, ℕ, ◌+◌, ◌<◌, ◌==◌, ◌&&◌, nat_lt, true, List, [], ◌∷◌, map, length, get_or, Option, Some, None, ap, sym, refl, ◌∙◌, subst, arith}
use Rattle.std.specs.Prelude.{sum_by, slice_get, option_map}
use Rattle.std.specs.List.{All, AllPairs, Contains}
use Rattle.std.proofs.lemmas.List.{get_or-map, length-map}
use Rattle.std.proofs.lemmas.List.Sums.{sum_by-cons}
use Rattle.std.proofs.lemmas.List.Elements.{All-same}
use Rattle.std.proofs.lemmas.Option.{slice_get-get_or, slice_get-map, same_Some}
use Rattle.nvme_ctrl_content.specs.Content.{Candidate, SqContent}
use Rattle.nvme_log.specs.Rules.{Past}
use Rattle.nvme_log.specs.Places.{fetched, waiting, fate_of, is_waiting, one_if, is_served}
use Rattle.nvme_ctrl_content.specs.Standing.{HoldsSq}
use Rattle.nvme_log.proofs.Waiting.{times_among, times-waiting, served-or_waits, waiting-below, waiting-ascending, waiting-waits, waiting-contains}

-- what holds of each item of a mapped list
pub All-from_map : {X Y : Type 0} (f : X → Y) (P : Y → Type 0) (xs : List X) → All P (map f xs) → All (λ (x : X). P (f x)) xs
All-from_map f P xs h k d lt = subst P (get_or-map f xs k d (f d) lt) (h k (f d) (omega (arith, length-map xs f, lt)))

-- and of each two
pub AllPairs-from_map : {X Y : Type 0} (f : X → Y) (R : Y → Y → Type 0) (xs : List X) → AllPairs R (map f xs) → AllPairs (λ (x y : X). R (f x) (f y)) xs
AllPairs-from_map f R xs h i j d lt within =
    subst (λ z. R (f (get_or xs i d)) z) (get_or-map f xs j d (f d) within)
    (subst (λ z. R z (get_or (map f xs) j (f d))) (get_or-map f xs i d (f d) (omega (arith, lt, within))) (h i j (f d) lt (omega (arith, length-map xs f, within))))

-- a sum over a mapped list
pub sum_by-map : {X Y : Type 0} (g : Y → ℕ) (f : X → Y) (xs : List X) → sum_by g (map f xs) ≡ sum_by (λ (x : X). g (f x)) xs
sum_by-map g f [] = refl
sum_by-map g f (x ∷ xs) = sum_by-cons g (f x) (map f xs) ∙ ap (λ (z : ℕ). g (f x) + z) (sum_by-map g f xs) ∙ sym (sum_by-cons (λ x. g (f x)) x xs)

-- an item of a mapped list is that of an item
map-contains : {X Y : Type 0} (f : X → Y) (xs : List X) (y : Y) → Contains (map f xs) y → (k : ℕ) × (x : X) × (slice_get xs k ≡ Some x) × (f x ≡ y)
map-contains {X = X} f xs y h = found (slice_get xs h.0) refl (sym (slice_get-map f xs h.0) ∙ slice_get-get_or (map f xs) h.0 y h.1 ∙ ap Some h.2) where
  found : (o : Option X) → slice_get xs h.0 ≡ o → option_map f o ≡ Some y → (k : ℕ) × (x : X) × (slice_get xs k ≡ Some x) × (f x ≡ y)
  found None e p = cc p
  found (Some x) e p = (h.0, x, e, same_Some (f x) y p)

-- how often an index is that of a candidate
abbrev pub times_in_window : ℕ → List Candidate → ℕ
times_in_window i cs = sum_by (λ (c : Candidate). one_if (c.index == i)) cs

module _ (past : Past) (r : ℕ) (s : SqContent) (h : HoldsSq past r s) where
  -- the indices of a window are those of fetched places
  pub window-below : All (λ (c : Candidate). c.index < length (fetched past r)) s.window
  window-below = All-from_map (λ (c : Candidate). c.index) (λ (i : ℕ). i < length (fetched past r)) s.window
      (All-same (λ (i : ℕ). i < length (fetched past r)) (map (λ (c : Candidate). c.index) s.window) (waiting past r) (sym h.waiting_is) (waiting-below past r))

  -- they stand in ascending order, so they are apart
  pub window-ascending : AllPairs (λ (c d : Candidate). c.index < d.index) s.window
  window-ascending = AllPairs-from_map (λ (c : Candidate). c.index) (λ (i j : ℕ). i < j) s.window
      (subst (λ (z : List ℕ). AllPairs (λ (i j : ℕ). i < j) z) h.waiting_is (waiting-ascending past r))

  -- the place of each candidate waits
  pub window-waits : All (λ (c : Candidate). is_waiting (fate_of past r c.index) ≡ true) s.window
  window-waits = All-from_map (λ (c : Candidate). c.index) (λ (i : ℕ). is_waiting (fate_of past r i) ≡ true) s.window
      (All-same (λ (i : ℕ). is_waiting (fate_of past r i) ≡ true) (map (λ (c : Candidate). c.index) s.window) (waiting past r) (sym h.waiting_is) (waiting-waits past r))

  -- a place is that of one candidate where it was fetched and waits, and otherwise of none
  pub times-window : (i : ℕ) → times_in_window i s.window ≡ one_if (nat_lt i (length (fetched past r)) && is_waiting (fate_of past r i))
  times-window i = sym (sum_by-map (λ (j : ℕ). one_if (j == i)) (λ (c : Candidate). c.index) s.window) ∙ ap (times_among i) (sym h.waiting_is) ∙ times-waiting past r i

  -- a fetched place was picked or aborted, or it is that of a candidate
  pub served-or_window : (i : ℕ) → one_if (is_served past r i) + times_in_window i s.window ≡ one_if (nat_lt i (length (fetched past r)))
  served-or_window i =
      ap (λ (z : ℕ). one_if (is_served past r i) + z)
      (sym (sum_by-map (λ (j : ℕ). one_if (j == i)) (λ (c : Candidate). c.index) s.window) ∙ ap (times_among i) (sym h.waiting_is))
      ∙ served-or_waits past r i

  -- a fetched place that waits is that of a candidate
  pub waits-in_window : (i : ℕ) → i < length (fetched past r) → is_waiting (fate_of past r i) ≡ true
      → (k : ℕ) × (c : Candidate) × (slice_get s.window k ≡ Some c) × (c.index ≡ i)
  waits-in_window i lt w =
      map-contains (λ (c : Candidate). c.index) s.window i (subst (λ (z : List ℕ). Contains z i) h.waiting_is (waiting-contains past r i lt w))
