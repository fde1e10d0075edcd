-- Sums over the steps from each number of a list to the next one.
use Rattle.std.proofs.Common.{◌≡◌, ℕ, suc, ◌+◌, ◌-◌, ◌*◌, ◌/◌, ◌<◌, ◌≤◌, min, List, [], ◌∷◌, length, get_or, take, drop, sum_by, ◌∙◌, arith, unwrap_or, slice_get}
use Rattle.std.specs.List.{zip}
use Rattle.std.proofs.lemmas.List.Sums.{sum_by-cons, sum_by-take-le, sum_by_more}
use Rattle.std.proofs.lemmas.Nat.{div_below}
use Rattle.std.proofs.lemmas.Option.{unwrap_or-slice_get}
use native.Mathlib.Numerals.{unary_clauses}

abbrev pub doubled : List ℕ → ℕ
doubled xs = sum_by (λ v. v * 2) xs

abbrev pub both_ends : List ℕ → ℕ
both_ends xs = sum_by (λ ends. ends.0 + ends.1) (zip xs (drop 1 xs))

-- each number stands in two steps, but for the first and the last one
steps_from : (x : ℕ) (xs : List ℕ) → both_ends (x ∷ xs) + (x + get_or (x ∷ xs) (length xs) 0) ≡ doubled (x ∷ xs)
steps_from x [] = omega (arith, sum_by-cons (λ (v : ℕ). v * 2) x [])
steps_from x (y ∷ ys) =
    let at_first = sum_by-cons (λ (ends : ℕ × ℕ). ends.0 + ends.1) (x, y) (zip (y ∷ ys) ys) in
    omega (arith, at_first, sum_by-cons (λ (v : ℕ). v * 2) x (y ∷ ys), steps_from y ys)

steps_le : (m x : ℕ) (xs : List ℕ) → ((k : ℕ) → get_or (x ∷ xs) k 0 ≤ m) → both_ends (x ∷ xs) ≤ length xs * (m * 2)
steps_le m x [] each = omega arith
steps_le m x (y ∷ ys) each =
    let at_first = sum_by-cons (λ (ends : ℕ × ℕ). ends.0 + ends.1) (x, y) (zip (y ∷ ys) ys) in
    let others = steps_le m y ys (λ k. each (suc k)) in
    omega (arith, at_first, others, each 0, each 1)

doubled_le : (m : ℕ) (xs : List ℕ) → ((k : ℕ) → get_or xs k 0 ≤ m) → doubled xs ≤ length xs * (m * 2)
doubled_le m [] each = omega arith
doubled_le m (x ∷ xs) each = omega (arith, sum_by-cons (λ (v : ℕ). v * 2) x xs, doubled_le m xs (λ k. each (suc k)), each 0)

both_ends_le : (m : ℕ) (xs : List ℕ) → ((k : ℕ) → get_or xs k 0 ≤ m) → both_ends xs ≤ (length xs - 1) * (m * 2)
both_ends_le m [] each = omega arith
both_ends_le m (x ∷ xs) each = simp unary_clauses (steps_le m x xs each)

-- one more number, twice: nothing is cut off, where all of them are small enough
pub doubled_more : (most m i : ℕ) (xs : List ℕ) (twice product total : ℕ) → i < length xs → ((k : ℕ) → get_or xs k 0 ≤ m) → length xs * (m * 2) ≤ most
    → twice ≡ doubled (take i xs) → product ≡ min (get_or xs i 0 * 2) most → total ≡ min (twice + product) most → total ≡ doubled (take (i + 1) xs)
doubled_more most m i xs twice product total within each few so_far one more =
    omega (arith, sum_by_more (λ (v : ℕ). v * 2) xs i 0 within, sum_by-take-le (λ (v : ℕ). v * 2) xs (i + 1), doubled_le m xs each)

-- all of them, less the first and the last one
pub both_ends_is : (xs : List ℕ) (first last : ℕ) → 0 < length xs → first ≡ unwrap_or (slice_get xs 0) 0 → last ≡ unwrap_or (slice_get xs (length xs - 1)) 0
    → both_ends xs + (first + last) ≡ doubled xs
both_ends_is [] first last some first_is last_is = absurd (omega arith)
both_ends_is (x ∷ xs) first last some first_is last_is =
    let at_last : last ≡ get_or (x ∷ xs) (length xs) 0 = simp unary_clauses at (last_is ∙ unwrap_or-slice_get (x ∷ xs) (length (x ∷ xs) - 1) 0) in
    omega (arith, steps_from x xs)

pub quotient_is : (most m : ℕ) (xs : List ℕ) (first last added inner double result : ℕ) → ((k : ℕ) → get_or xs k 0 ≤ m) → length xs * (m * 2) ≤ most → length xs * 2 ≤ most
    → both_ends xs + (first + last) ≡ doubled xs → added ≡ min (first + last) most → inner ≡ doubled xs - added → double ≡ min ((length xs - 1) * 2) most
    → result ≡ min (inner * 1) most / double → result ≡ both_ends xs / (2 * (length xs - 1))
quotient_is most m xs first last added inner double result each few short ends added_is inner_is double_is is =
    let doubled_few = doubled_le m xs each in
    let top : min (inner * 1) most ≡ both_ends xs = omega arith in
    let bottom : double ≡ 2 * (length xs - 1) = omega arith in
    cc

quotient_below : (m n total : ℕ) → 0 < n → total ≤ n * (m * 2) → total / (2 * n) < m + 1
quotient_below m n total some most = div_below total (2 * n) (m + 1) (omega arith) (omega arith)

pub mean_below : (m : ℕ) (xs : List ℕ) → 2 ≤ length xs → ((k : ℕ) → get_or xs k 0 ≤ m) → both_ends xs / (2 * (length xs - 1)) < m + 1
mean_below m xs long each = quotient_below m (length xs - 1) (both_ends xs) (omega arith) (both_ends_le m xs each)
