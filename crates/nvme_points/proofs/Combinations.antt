-- The points of a sweep are all combinations.
use Rattle.std.proofs.Common.{◌≡◌, ◌<◌, ◌≤◌, ℕ, zero, suc, ◌+◌, ◌*◌, ◌/◌, List, [], ◌∷◌, drop, get_or, length, refl, arith, ◌⊎◌, inl, inr}
use Rattle.std.proofs.Math.Nat.{div-lt_iff_lt-mul, mod-lt, mul_assoc, mul_comm}
use Rattle.std.proofs.lemmas.List.{drop_more}
use Rattle.std.proofs.lemmas.Nat.{div-add-mod', div-mul-add, mod-mul-add, row_fits}
use Rattle.nvme_points.specs.Points.{AreAll, IsChoice, choices_of, count_of, place_of}

positive : (c n k : ℕ) → k < c * n → 0 < n
positive c zero k l = omega (arith, l)
positive c (suc n) k l = omega arith

quotient_below : (c n k : ℕ) → k < c * n → k / n < c
quotient_below c n k l = (div-lt_iff_lt-mul {k = n} {x = k} {y = c} (positive c n k l)).1 l

choice : (ns : List ℕ) (k : ℕ) → k < count_of ns → IsChoice ns (choices_of ns k)
choice [] k l = IsChoice.none
choice (n ∷ ns) k l =
    IsChoice.more (mod-lt k (positive (count_of ns) n k l)) (choice ns (k / n) (quotient_below (count_of ns) n k l))

place : (ns : List ℕ) (k : ℕ) → k < count_of ns → place_of ns (choices_of ns k) ≡ k
place [] k l = omega (arith, l)
place (n ∷ ns) k l =
    let ih : place_of ns (choices_of ns (k / n)) ≡ k / n = place ns (k / n) (quotient_below (count_of ns) n k l) in
    rw ih (div-add-mod' k n)

within : (ns ds : List ℕ) → IsChoice ns ds → place_of ns ds < count_of ns
within [] [] IsChoice.none = omega arith
within [] (d ∷ ds) x = elim x [ ]
within (n ∷ ns) [] x = elim x [ ]
within (n ∷ ns) (d ∷ ds) (IsChoice.more l rest) =
    let ih : place_of ns ds < count_of ns = within ns ds rest in
    let row : place_of ns ds * n + n ≤ count_of ns * n = row_fits (place_of ns ds) n (count_of ns) n ih (omega arith) in
    omega (arith, row, l)

each : (ns ds : List ℕ) → IsChoice ns ds → choices_of ns (place_of ns ds) ≡ ds
each [] [] IsChoice.none = refl
each [] (d ∷ ds) x = elim x [ ]
each (n ∷ ns) [] x = elim x [ ]
each (n ∷ ns) (d ∷ ds) (IsChoice.more l rest) =
    rw (mod-mul-add (place_of ns ds) n d l) (rw (div-mul-add (place_of ns ds) n d l) (rw (each ns ds rest) refl))

-- one length more of a product
next_product : (c n a : ℕ) → c * n * a ≡ c * (a * n)
next_product c n a = rw (mul_assoc c n a) (rw (mul_comm n a) refl)

-- and of that of lengths
pub next_count : (lengths : List ℕ) (i c total : ℕ) → i < length lengths → c * count_of (drop i lengths) ≡ total → c * get_or lengths i 0 * count_of (drop (i + 1) lengths) ≡ total
next_count lengths i c total l e =
    let split : drop i lengths ≡ get_or lengths i 0 ∷ drop (i + 1) lengths = drop_more lengths i 0 l in
    let whole : c * (count_of (drop (i + 1) lengths) * get_or lengths i 0) ≡ total = rw split at e in
    rw (next_product c (get_or lengths i 0) (count_of (drop (i + 1) lengths))) whole

-- a product is at least one of its factors, unless the others are none
times_rest : (c m : ℕ) → (c * m ≡ 0) ⊎ (c ≤ c * m)
times_rest c zero = inl (let e : c * zero ≡ 0 = omega arith in omega (arith, e))
times_rest c (suc m) = inr (let e : c * suc m ≡ c + c * m = omega arith in omega (arith, e))

-- so where one doesn't fit, there are too many in all, or none
pub too_many : (lengths : List ℕ) (i c total : ℕ) → i < length lengths → c * count_of (drop i lengths) ≡ total → 0x1_0000_0000_0000_0000 ≤ c * get_or lengths i 0
    → (total ≡ 0) ⊎ (0x1_0000_0000_0000_0000 ≤ total)
too_many lengths i c total l e above =
    let whole : c * get_or lengths i 0 * count_of (drop (i + 1) lengths) ≡ total = next_count lengths i c total l e in
    elim (times_rest (c * get_or lengths i 0) (count_of (drop (i + 1) lengths))) [
      | inl none ↦ inl (omega (arith, none, whole))
      | inr some ↦ inr (omega (arith, some, whole, above))
    ]

pub all_combinations : (ns : List ℕ) → AreAll ns
all_combinations ns = record {
  choice = choice ns;
  place = place ns;
  within = within ns;
  each = each ns;
}
