-- How many elements of a list pass a test.
use Rattle.std.proofs.Common.{◌≡◌, ℕ, zero, suc, ◌+◌, ◌<◌, ◌≤◌, Bool, true, false, cond, List, [], ◌∷◌, length, get_or, count_by, refl, arith}
use Rattle.std.proofs.lemmas.List.Sums.{count_by-le-length, sum_by-cons}

-- what an element counts
abbrev pub one_if : Bool → ℕ
one_if b = cond b 1 0

-- one element more
first : (p : ℕ → Bool) (x : ℕ) (xs : List ℕ) → count_by p (x ∷ xs) ≡ one_if (p x) + count_by p xs
first p x xs = sum_by-cons (λ (t : ℕ). cond (p t) 1 0) x xs

-- all pass, or none
pub all_pass : (p : ℕ → Bool) (xs : List ℕ) → ((k : ℕ) → k < length xs → p (get_or xs k 0) ≡ true) → count_by p xs ≡ length xs
all_pass p [] h = refl
all_pass p (x ∷ xs) h =
    let here : p x ≡ true = h 0 (omega arith) in
    let one : one_if (p x) ≡ 1 = rw here refl in
    let rest : count_by p xs ≡ length xs = all_pass p xs (λ k l. h (suc k) (omega (arith, l))) in
    omega (arith, first p x xs, one, rest)

pub none_pass : (p : ℕ → Bool) (xs : List ℕ) → ((k : ℕ) → k < length xs → p (get_or xs k 0) ≡ false) → count_by p xs ≡ 0
none_pass p [] h = refl
none_pass p (x ∷ xs) h =
    let here : p x ≡ false = h 0 (omega arith) in
    let no : one_if (p x) ≡ 0 = rw here refl in
    let rest : count_by p xs ≡ 0 = none_pass p xs (λ k l. h (suc k) (omega (arith, l))) in
    omega (arith, first p x xs, no, rest)

-- one doesn't
pub one_fails : (p : ℕ → Bool) (xs : List ℕ) (k : ℕ) → k < length xs → p (get_or xs k 0) ≡ false → count_by p xs < length xs
one_fails p [] k l e = absurd (omega (arith, l))
one_fails p (x ∷ xs) zero l e =
    let no : one_if (p x) ≡ 0 = rw e refl in
    omega (arith, first p x xs, no, count_by-le-length p xs)
one_fails p (x ∷ xs) (suc k) l e =
    let rest : count_by p xs < length xs = one_fails p xs k (omega (arith, l)) e in
    let one : one_if (p x) ≤ 1 = elim (p x) as (λ b. one_if b ≤ 1) [ true ↦ omega arith | false ↦ omega arith ] in
    omega (arith, first p x xs, one, rest)
