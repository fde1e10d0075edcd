-- A list whose elements differ is sorted in one way, whatever order they came in.
use Rattle.std.proofs.Common.{◌≡◌, ◌∙◌, ℕ, zero, suc, ◌<◌, Bool, true, false, not, cond, List, [], ◌∷◌, length, get_or, set, sym, ap, refl, arith}
use Rattle.std.specs.List.{AllByRecursion, IsDistinct, swap}
use Rattle.std.specs.List.Sorted.{IsPermutation}
use Rattle.std.proofs.lemmas.List.Elements.{All-from_recursion}
use Rattle.std.proofs.lemmas.List.Sorted.{IsPermutation-keeps, IsPermutation-swap}
use Rattle.std.proofs.lemmas.Map.Keys.{IsDistinct-head, IsDistinct-tail, IsDistinct-IsPermutation}
use Rattle.nvme_clock.specs.Events.{inserted, sorted}

choose : {A : Type 0} (x y : Bool) (p q : A) → y ≡ not x → cond x p q ≡ cond y q p
choose true y p q e = rw e refl
choose false y p q e = rw e refl

-- every element of a list is one of it sorted
all_inserted : {X : Type 0} (R : X → X → Bool) (P : X → Type 0) (x : X) (ys : List X) → P x → AllByRecursion P ys → AllByRecursion P (inserted R x ys)
all_inserted R P x [] p h = (p, tt)
all_inserted R P x (y ∷ ys) p h =
    elim (R x y) as (λ b. AllByRecursion P (cond b (x ∷ y ∷ ys) (y ∷ inserted R x ys))) [ true ↦ (p, h) | false ↦ (h.0, all_inserted R P x ys p h.1) ]

pub all_sorted : {X : Type 0} (R : X → X → Bool) (P : X → Type 0) (xs : List X) → AllByRecursion P xs → AllByRecursion P (sorted R xs)
all_sorted R P [] h = tt
all_sorted R P (x ∷ xs) h = all_inserted R P x (sorted R xs) h.0 (all_sorted R P xs h.1)

before_all : {X : Type 0} (R : X → X → Bool) (x : X) (ys : List X) → AllByRecursion (λ y. R x y ≡ true) ys → inserted R x ys ≡ x ∷ ys
before_all R x [] h = refl
before_all R x (y ∷ ys) h = rw h.0 refl

-- what comes before all others stands first
pub sorted_first : {X : Type 0} (R : X → X → Bool) (x : X) (ys : List X) → AllByRecursion (λ y. R x y ≡ true) ys → sorted R (x ∷ ys) ≡ x ∷ sorted R ys
sorted_first R x ys h = before_all R x (sorted R ys) (all_sorted R (λ y. R x y ≡ true) ys h)

module _ {X : Type 0} (R : X → X → Bool) (same : X → X → Bool)
    (turn : (x y : X) → same x y ≡ same y x)
    (flip : (x y : X) → same x y ≡ false → R y x ≡ not (R x y))
    (trans : (x y z : X) → R x y ≡ true → R y z ≡ true → R x z ≡ true) where
  -- two that differ are inserted in either order
  inserted_swap : (a b : X) (ys : List X) → same a b ≡ false → inserted R a (inserted R b ys) ≡ inserted R b (inserted R a ys)
  inserted_swap a b [] d = choose (R a b) (R b a) (a ∷ b ∷ []) (b ∷ a ∷ []) (flip a b d)
  inserted_swap a b (y ∷ ys) d = go (R a y) (R b y) refl refl (inserted_swap a b ys d)
    where
      not_both : R a y ≡ true → R b y ≡ false → (r : Bool) → R b a ≡ r → r ≡ false
      not_both p q false e = refl
      not_both p q true e = sym (trans b a y e p) ∙ q

      nor_both : R a y ≡ false → R b y ≡ true → (r : Bool) → R a b ≡ r → r ≡ false
      nor_both p q false e = refl
      nor_both p q true e = sym (trans a b y e q) ∙ p

      both : (r : Bool) → R a b ≡ r → R b a ≡ not r → R a y ≡ true → R b y ≡ true
          → inserted R a (inserted R b (y ∷ ys)) ≡ inserted R b (inserted R a (y ∷ ys))
      both true e f p q = simp (p, q, e, f)
      both false e f p q = simp (p, q, e, f)

      go : (u v : Bool) → R a y ≡ u → R b y ≡ v → inserted R a (inserted R b ys) ≡ inserted R b (inserted R a ys)
          → inserted R a (inserted R b (y ∷ ys)) ≡ inserted R b (inserted R a (y ∷ ys))
      go true true p q more = both (R a b) refl (flip a b d) p q
      go true false p q more = let e = not_both p q (R b a) refl in simp (p, q, e)
      go false true p q more = let e = nor_both p q (R a b) refl in simp (p, q, e)
      go false false p q more = simp (p, q) (ap (λ (v : List X). y ∷ v) more)

  -- a place and the first exchange what they have
  first_set : (z d : X) (xs : List X) (k : ℕ) → k < length xs → AllByRecursion (λ y. same z y ≡ false) xs → IsDistinct same xs
      → inserted R (get_or xs k d) (sorted R (set xs k z)) ≡ inserted R z (sorted R xs)
  first_set z d [] k l h a = absurd (omega (arith, l))
  first_set z d (w ∷ ws) zero l h a = inserted_swap w z (sorted R ws) (turn w z ∙ h.0)
  first_set z d (w ∷ ws) (suc k) l h a =
      let v = get_or ws k d in
      let within : k < length ws = omega (arith, l) in
      let apart = All-from_recursion (λ y. same w y ≡ false) ws (IsDistinct-head same w ws a) k d within in
      inserted_swap v w (sorted R (set ws k z)) (turn v w ∙ apart)
      ∙ ap (λ (t : List X). inserted R w t) (first_set z d ws k within h.1 (IsDistinct-tail same w ws a))
      ∙ inserted_swap w z (sorted R ws) (turn w z ∙ h.0)

  -- two places exchange what they have
  sorted_sets : (d : X) (xs : List X) (i j : ℕ) → i < length xs → j < length xs → IsDistinct same xs
      → sorted R (set (set xs i (get_or xs j d)) j (get_or xs i d)) ≡ sorted R xs
  sorted_sets d [] i j p q a = absurd (omega (arith, p))
  sorted_sets d (x ∷ xs) zero zero p q a = refl
  sorted_sets d (x ∷ xs) zero (suc j) p q a = first_set x d xs j (omega (arith, q)) (IsDistinct-head same x xs a) (IsDistinct-tail same x xs a)
  sorted_sets d (x ∷ xs) (suc i) zero p q a = first_set x d xs i (omega (arith, p)) (IsDistinct-head same x xs a) (IsDistinct-tail same x xs a)
  sorted_sets d (x ∷ xs) (suc i) (suc j) p q a =
      ap (λ (t : List X). inserted R x t) (sorted_sets d xs i j (omega (arith, p)) (omega (arith, q)) (IsDistinct-tail same x xs a))

  sorted_swap : (xs : List X) (i j : ℕ) → i < length xs → j < length xs → IsDistinct same xs → sorted R (swap xs i j) ≡ sorted R xs
  sorted_swap [] i j p q a = refl
  sorted_swap (x ∷ xs) i j p q a = sorted_sets x (x ∷ xs) i j p q a

  pub sorted_permutation : (xs ys : List X) → IsDistinct same xs → IsPermutation xs ys → sorted R ys ≡ sorted R xs
  sorted_permutation xs ys a p =
      (IsPermutation-keeps xs (λ l. IsDistinct same l × (sorted R l ≡ sorted R xs)) (a, refl)
      (λ l i j li lj h. (
        IsDistinct-IsPermutation same turn l (swap l i j) (IsPermutation-swap l (swap l i j) i j li lj refl) h.0,
        sorted_swap l i j li lj h.0 ∙ h.1,
      )) ys p).1
