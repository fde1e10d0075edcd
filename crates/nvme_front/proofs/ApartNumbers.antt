-- Numbers that are apart, in another order.
use Rattle.std.proofs.Common.{◌≡◌, ◌≢◌, ℕ, zero, suc, false, List, [], ◌∷◌, refl, sym, arith, inl, inr, eqb}
use Rattle.std.specs.List.{Contains, IsDistinct}
use Rattle.std.specs.List.Sorted.{IsPermutation}
use Rattle.std.proofs.lemmas.Bool.{cases_eq, eqb-false, ne_eqb}
use Rattle.std.proofs.lemmas.List.Elements.{All-weaker, recursion_from_All, All-from_recursion}
use Rattle.std.proofs.lemmas.Map.Keys.{IsDistinct-IsPermutation}
use Rattle.nvme_slots.specs.Pool.{AreApart}

-- numbers are apart just where they are distinct
distinct : (xs : List ℕ) → AreApart xs → IsDistinct eqb xs
unfolding IsDistinct
distinct [] h = tt
distinct (x ∷ xs) h =
    (recursion_from_All (λ (y : ℕ). eqb x y ≡ false) xs (All-weaker (λ (y : ℕ). y ≢ x) (λ (y : ℕ). eqb x y ≡ false) (λ y other. ne_eqb x y (λ e. other (sym e))) xs h.0), distinct xs h.1)

apart : (xs : List ℕ) → IsDistinct eqb xs → AreApart xs
unfolding IsDistinct
apart [] h = tt
apart (x ∷ xs) h =
    (All-weaker (λ (y : ℕ). eqb x y ≡ false) (λ (y : ℕ). y ≢ x) (λ y other e. eqb-false x y other (sym e)) xs (All-from_recursion (λ (y : ℕ). eqb x y ≡ false) xs h.0), apart xs h.1)

flips : (x y : ℕ) → eqb x y ≡ eqb y x
flips x y = elim (cases_eq x y) [
  | inl e ↦ rw e refl
  | inr other ↦ rw (ne_eqb x y other, ne_eqb y x (λ e. other (sym e))) refl
]

-- they stay apart in another order
pub apart-permutation : (xs ys : List ℕ) → IsPermutation xs ys → AreApart xs → AreApart ys
apart-permutation xs ys same h = apart ys (IsDistinct-IsPermutation eqb flips xs ys same (distinct xs h))

-- what a list has, and isn't the first of it, is among the others
pub contains-others : (x t : ℕ) (xs : List ℕ) → Contains (x ∷ xs) t → t ≢ x → Contains xs t
contains-others x t xs (zero, lt, is) other = absurd (other (sym is))
contains-others x t xs (suc k, lt, is) other = (k, omega (arith, lt), is)
