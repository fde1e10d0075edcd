-- What a heap of events holds, in order.
use Rattle.std.proofs.Common.{◌≡◌, ◌∙◌, ℕ, ◌<◌, ◌≤◌, ◌==◌, Bool, true, false, not, cond, nat_lt, List, [], ◌∷◌, All, refl, sym, ap, arith}
use Rattle.std.specs.BinaryHeap.{IsUpperBound}
use Rattle.std.specs.Cmp.{IsTotalOrder, nat_cmp_total, on_total, then_total}
use Rattle.std.specs.List.{AllByRecursion, IsDistinct}
use Rattle.std.specs.List.Sorted.{IsPermutation}
use Rattle.std.specs.Ordering.{is_eq, is_lt, nat_cmp, ordering_reverse, ordering_then}
use Rattle.std.specs.declared.cmp.Ordering.{Ordering}
use Rattle.std.specs.declared.cmp.Ordering.TheVariants.{Less, Equal, Greater}
use Rattle.std.specs.declared.cmp.Reverse.{Reverse}
use Rattle.std.proofs.lemmas.Bool.Decides.{nat_tests}
use Rattle.std.proofs.lemmas.List.Elements.{All-cons, All-nil, All-tail}
use Rattle.std.proofs.lemmas.List.Sorted.{All-permutation, IsPermutation-map, le_from_greatest}
use Rattle.std.proofs.lemmas.Map.Keys.{IsDistinct-head, IsDistinct-tail, IsDistinct-IsPermutation}
use Rattle.nvme_clock.specs.declared.events.Event.{Event}
use Rattle.nvme_clock.specs.Events.{comes_before, comes_later, event_cmp, events_in, inserted, same_number, sorted}
use Rattle.nvme_clock.specs.Held.{Held}
use Rattle.nvme_clock.proofs.Sorting.{sorted_first, sorted_permutation}

-- ---- answers of a comparison

reversed : (r : Ordering) → is_eq r ≡ false → is_lt (ordering_reverse r) ≡ not (is_lt r)
reversed Less e = refl
reversed Equal e = sym e
reversed Greater e = refl

second_apart : (r s : Ordering) → is_eq s ≡ false → is_eq (ordering_then r s) ≡ false
second_apart Less s e = refl
second_apart Equal s e = e
second_apart Greater s e = refl

first_not_less : (r s : Ordering) → is_lt (ordering_then r s) ≡ false → is_lt r ≡ false
first_not_less Less s e = e
first_not_less Equal s e = refl
first_not_less Greater s e = refl

less : (r : Ordering) → is_lt r ≡ true → r ≡ Less
less Less e = refl
less Equal e = cc
less Greater e = cc

not_false : (b : Bool) → not b ≡ false → b ≡ true
not_false true e = refl
not_false false e = sym e

differ : (m n : ℕ) → (m == n) ≡ false → is_eq (nat_cmp m n) ≡ false
differ m n e = rw e (elim (nat_lt m n) as (λ (b : Bool). is_eq (cond b Less Greater) ≡ false) [ true ↦ refl | false ↦ refl ])

at_least : (m n : ℕ) → is_lt (nat_cmp m n) ≡ false → n ≤ m
at_least m n e = le_from_greatest m (n ∷ []) (e, tt) 0 n (omega arith)

above : (m n : ℕ) → m < n → (n == m) ≡ false
above m n h = grind (arith, nat_tests)

turned : (m n : ℕ) → (m == n) ≡ (n == m)
turned m n = grind (arith, nat_tests)

module _ {E : Type 0} where
  total : IsTotalOrder {K = Event E} event_cmp
  total = then_total (on_total (λ (e : Event E). e.at) nat_cmp_total) (on_total (λ (e : Event E). e.number) nat_cmp_total)

  turn : (x y : Event E) → same_number x y ≡ same_number y x
  turn x y = turned x.number y.number

  flip : (x y : Event E) → same_number x y ≡ false → comes_before y x ≡ not (comes_before x y)
  flip x y e =
      ap is_lt (total.antisymm y x)
      ∙ reversed (event_cmp x y) (second_apart (nat_cmp x.at y.at) (nat_cmp x.number y.number) (differ x.number y.number e))

  trans : (x y z : Event E) → comes_before x y ≡ true → comes_before y z ≡ true → comes_before x z ≡ true
  trans x y z p q = ap is_lt (total.trans x y z (less (event_cmp x y) p) (less (event_cmp y z) q))

  -- the greatest element of a heap comes before all others
  all_before : (x : Reverse (Event E)) (ys : List (Reverse (Event E))) → AllByRecursion (λ y. same_number x.0 y ≡ false) (events_in ys)
      → IsUpperBound comes_later x ys → AllByRecursion (λ y. comes_before x.0 y ≡ true) (events_in ys)
  all_before x [] h t = tt
  all_before x (y ∷ ys) h t = (not_false (comes_before x.0 y.0) (sym (flip x.0 y.0 h.0) ∙ t.0), all_before x ys h.1 t.1)

  -- and none is earlier
  pub none_earlier : (x : Reverse (Event E)) (ys : List (Reverse (Event E))) → IsUpperBound comes_later x ys → All (λ e. x.0.at ≤ e.at) (events_in ys)
  none_earlier x [] t = All-nil (λ (e : Event E). x.0.at ≤ e.at)
  none_earlier x (y ∷ ys) t =
      All-cons (λ (e : Event E). x.0.at ≤ e.at) y.0 (events_in ys)
      (at_least y.0.at x.0.at (first_not_less (nat_cmp y.0.at x.0.at) (nat_cmp y.0.number x.0.number) t.0)) (none_earlier x ys t.1)

  moved : (xs ys : List (Reverse (Event E))) → IsPermutation xs ys → IsPermutation (events_in xs) (events_in ys)
  moved xs ys p = IsPermutation-map (λ (y : Reverse (Event E)). y.0) xs ys p

  abbrev pub holding : ℕ → ℕ → List (Event E) → Held E
  holding time next events = record { time = time; next = next; events = events }

  -- ---- a heap that holds nothing

  pub empty_distinct : (xs : List (Reverse (Event E))) → xs ≡ [] → IsDistinct same_number (events_in xs)
  unfolding IsDistinct
  empty_distinct [] e = tt
  empty_distinct (x ∷ xs) e = cc

  pub empty_all : (P : Event E → Type 0) (xs : List (Reverse (Event E))) → xs ≡ [] → All P (events_in xs)
  empty_all P [] e = All-nil P
  empty_all P (x ∷ xs) e = cc

  -- ---- a pop

  pub popped_distinct : (x : Reverse (Event E)) (old new : List (Reverse (Event E))) → IsDistinct same_number (events_in old)
      → IsPermutation old (x ∷ new) → IsDistinct same_number (events_in new)
  popped_distinct x old new d p =
      IsDistinct-tail same_number x.0 (events_in new)
      (IsDistinct-IsPermutation same_number turn (events_in old) (x.0 ∷ events_in new) (moved old (x ∷ new) p) d)

  pub popped_all : (P : Event E → Type 0) (x : Reverse (Event E)) (old new : List (Reverse (Event E))) → IsPermutation old (x ∷ new)
      → All P (events_in old) → All P (x.0 ∷ events_in new)
  popped_all P x old new p h = All-permutation P (events_in old) (x.0 ∷ events_in new) (moved old (x ∷ new) p) h

  pub popped_others : (P : Event E → Type 0) (x : Reverse (Event E)) (old new : List (Reverse (Event E))) → IsPermutation old (x ∷ new)
      → All P (events_in old) → All P (events_in new)
  popped_others P x old new p h = All-tail P x.0 (events_in new) (popped_all P x old new p h)

  pub popped_first : (P : Event E → Type 0) (x : Reverse (Event E)) (old new : List (Reverse (Event E))) → IsPermutation old (x ∷ new)
      → All P (events_in old) → P x.0
  popped_first P x old new p h = popped_all P x old new p h 0 x.0 (omega arith)

  pub popped_order : (x : Reverse (Event E)) (old new : List (Reverse (Event E))) → IsDistinct same_number (events_in old)
      → IsPermutation old (x ∷ new) → IsUpperBound comes_later x new
      → sorted comes_before (events_in old) ≡ x.0 ∷ sorted comes_before (events_in new)
  popped_order x old new d p t =
      let q = moved old (x ∷ new) p in
      sym (sorted_permutation comes_before same_number turn flip trans (events_in old) (x.0 ∷ events_in new) d q)
      ∙ sorted_first comes_before x.0 (events_in new)
      (all_before x new (IsDistinct-head same_number x.0 (events_in new)
      (IsDistinct-IsPermutation same_number turn (events_in old) (x.0 ∷ events_in new) q d)) t)

  -- ---- a push

  new_number : (x : Event E) (ys : List (Event E)) → All (λ e. e.number < x.number) ys → AllByRecursion (λ y. same_number x y ≡ false) ys
  new_number x [] h = tt
  new_number x (y ∷ ys) h =
      (above y.number x.number (h 0 y (omega arith)), new_number x ys (All-tail (λ (e : Event E). e.number < x.number) y ys h))

  with_new : (x : Event E) (ys : List (Event E)) → All (λ e. e.number < x.number) ys → IsDistinct same_number ys → IsDistinct same_number (x ∷ ys)
  unfolding IsDistinct
  with_new x ys h d = (new_number x ys h, d)

  pub pushed_distinct : (x : Reverse (Event E)) (old new : List (Reverse (Event E))) → All (λ e. e.number < x.0.number) (events_in old)
      → IsDistinct same_number (events_in old) → IsPermutation (x ∷ old) new → IsDistinct same_number (events_in new)
  pushed_distinct x old new h d p =
      IsDistinct-IsPermutation same_number turn (x.0 ∷ events_in old) (events_in new) (moved (x ∷ old) new p) (with_new x.0 (events_in old) h d)

  pub pushed_all : (P : Event E → Type 0) (x : Reverse (Event E)) (old new : List (Reverse (Event E))) → IsPermutation (x ∷ old) new
      → P x.0 → All P (events_in old) → All P (events_in new)
  pushed_all P x old new p one h =
      All-permutation P (x.0 ∷ events_in old) (events_in new) (moved (x ∷ old) new p) (All-cons P x.0 (events_in old) one h)

  pub pushed_order : (x : Reverse (Event E)) (old new : List (Reverse (Event E))) → All (λ e. e.number < x.0.number) (events_in old)
      → IsDistinct same_number (events_in old) → IsPermutation (x ∷ old) new
      → sorted comes_before (events_in new) ≡ inserted comes_before x.0 (sorted comes_before (events_in old))
  pushed_order x old new h d p =
      sorted_permutation comes_before same_number turn flip trans (x.0 ∷ events_in old) (events_in new)
      (with_new x.0 (events_in old) h d) (moved (x ∷ old) new p)
