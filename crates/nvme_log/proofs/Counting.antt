-- Counts of places by tests, and sums over regions.
use Rattle.std.proofs.Common.{◌≡◌, ℕ, zero, suc, ◌+◌, ◌<◌, ◌≤◌, min, Bool, true, false, not, nat_lt, ◌==◌, if◌then◌else◌, List, [], ◌∷◌, ◌++◌, length, sum_by, refl, ap, ◌∙◌, arith, ⊎_elim}
use Rattle.std.proofs.lemmas.Bool.{ltb-true, ltb-false, cases_eq, ne_eqb, eq-eqb}
use Rattle.std.proofs.lemmas.List.{length-append}
use Rattle.std.proofs.lemmas.List.Elements.{filter-append}
use Rattle.std.proofs.lemmas.List.Sums.{sum_by-append}
use Rattle.nvme_log.specs.Rules.{upto}
use Rattle.nvme_log.specs.Places.{Fate, WasAborted, WasPicked, Waits, is_picked}
use Rattle.nvme_log.specs.Laws.{count_of}
use Rattle.nvme_log.specs.Places.{one_if}

-- one more place in front
pub count_of-cons : (t : ℕ → Bool) (i : ℕ) (is : List ℕ) → count_of t (i ∷ is) ≡ one_if (t i) + count_of t is
count_of-cons t i is = by (t i) refl where
  by : (b : Bool) → t i ≡ b → count_of t (i ∷ is) ≡ one_if (t i) + count_of t is
  by true e = rw e (omega arith)
  by false e = rw e (omega arith)

-- one more place at the end
pub count_of-push : (t : ℕ → Bool) (is : List ℕ) (i : ℕ) → count_of t (is ++ i ∷ []) ≡ count_of t is + one_if (t i)
count_of-push t is i =
    let split : count_of t (is ++ i ∷ []) ≡ count_of t is + count_of t (i ∷ []) =
    ap (λ (z : List ℕ). length z) (filter-append t is (i ∷ [])) ∙ length-append _ _ in
    let last : count_of t (i ∷ []) ≡ one_if (t i) + 0 = count_of-cons t i [] in
    omega (arith, split, last)

-- two tests that pass no place together, and a third that passes where one of them does
pub counts_add : (t u v : ℕ → Bool) → ((i : ℕ) → one_if (t i) + one_if (u i) ≡ one_if (v i)) → (is : List ℕ)
    → count_of t is + count_of u is ≡ count_of v is
counts_add t u v h [] = refl
counts_add t u v h (i ∷ is) =
    let et = count_of-cons t i is in
    let eu = count_of-cons u i is in
    let ev = count_of-cons v i is in
    let here = h i in
    let rest = counts_add t u v h is in
    omega (arith, et, eu, ev, here, rest)

-- a test and its contrary pass all places
pub counts_all : (t : ℕ → Bool) (is : List ℕ) → count_of t is + count_of (λ (i : ℕ). not (t i)) is ≡ length is
counts_all t [] = refl
counts_all t (i ∷ is) =
    let et = count_of-cons t i is in
    let eu = count_of-cons (λ (k : ℕ). not (t k)) i is in
    let rest = counts_all t is in
    omega (arith, et, eu, rest, one (t i)) where
      one : (b : Bool) → one_if b + one_if (not b) ≡ 1
      one true = refl
      one false = refl

-- tests that agree count the same
pub counts_same : (t u : ℕ → Bool) → ((i : ℕ) → u i ≡ t i) → (is : List ℕ) → count_of u is ≡ count_of t is
counts_same t u h is = ap (λ (z : ℕ → Bool). count_of z is) (λ x i. h i x)

-- a test that passes less counts less
pub counts_less : (t u : ℕ → Bool) → ((i : ℕ) → t i ≡ true → u i ≡ true) → (is : List ℕ) → count_of t is ≤ count_of u is
counts_less t u h [] = omega arith
counts_less t u h (i ∷ is) =
    let et = count_of-cons t i is in
    let eu = count_of-cons u i is in
    let rest = counts_less t u h is in
    let here = less (t i) (u i) (h i) in
    omega (arith, et, eu, rest, here) where
      less : (a b : Bool) → (a ≡ true → b ≡ true) → one_if a ≤ one_if b
      less true true k = omega arith
      less true false k = absurd (cc (k refl))
      less false true k = omega arith
      less false false k = omega arith

-- tests that agree below n count the same there
pub counts_below : (t u : ℕ → Bool) (n : ℕ) → ((i : ℕ) → i < n → u i ≡ t i) → count_of u (upto n) ≡ count_of t (upto n)
counts_below t u zero h = refl
counts_below t u (suc n) h =
    let et = count_of-push t (upto n) n in
    let eu = count_of-push u (upto n) n in
    let here : one_if (u n) ≡ one_if (t n) = ap one_if (h n (omega arith)) in
    let rest = counts_below t u n (λ (i : ℕ) lt. h i (omega arith)) in
    omega (arith, et, eu, here, rest)

-- tests that agree but at one index
pub counts_change : (t u : ℕ → Bool) (i n : ℕ) → i < n → ((j : ℕ) → (i ≡ j → ⊥) → u j ≡ t j)
    → count_of u (upto n) + one_if (t i) ≡ count_of t (upto n) + one_if (u i)
counts_change t u i zero lt h = absurd (omega arith)
counts_change t u i (suc n) lt h =
    let et = count_of-push t (upto n) n in
    let eu = count_of-push u (upto n) n in
    ⊎_elim
    (λ (same : i ≡ n).
    let below = counts_below t u n (λ (j : ℕ) less. h j (λ e. omega arith)) in
    let tn : one_if (t i) ≡ one_if (t n) = ap (λ (z : ℕ). one_if (t z)) same in
    let un : one_if (u i) ≡ one_if (u n) = ap (λ (z : ℕ). one_if (u z)) same in
    omega (arith, et, eu, below, tn, un))
    (λ (other : i ≡ n → ⊥).
    let rest = counts_change t u i n (omega arith) h in
    let here : one_if (u n) ≡ one_if (t n) = ap one_if (h n other) in
    omega (arith, et, eu, rest, here))
    (cases_eq i n)

-- the fate of a place that is aborted or not, and before enough picks or not
abbrev pub fate_by : Bool → Bool → Fate
fate_by aborted first = if aborted then WasAborted else (if first then WasPicked else Waits)

-- the unaborted numbers below i, of which the first p are picked
abbrev pub unaborted : (ℕ → Bool) → ℕ → ℕ
unaborted aborted i = count_of (λ (k : ℕ). not (aborted k)) (upto i)

-- the fate of the number i, where p are picked
abbrev pub fate_among : (ℕ → Bool) → ℕ → ℕ → Fate
fate_among aborted p i = fate_by (aborted i) (nat_lt (unaborted aborted i) p)

-- of the numbers below n, as many are picked as p says, or all that aren't aborted
pub picked_among : (aborted : ℕ → Bool) (p n : ℕ) → count_of (λ (i : ℕ). is_picked (fate_among aborted p i)) (upto n) ≡ min p (unaborted aborted n)
picked_among aborted p zero = omega arith
picked_among aborted p (suc n) =
    let taken = count_of-push (λ (i : ℕ). is_picked (fate_among aborted p i)) (upto n) n in
    let left = count_of-push (λ (k : ℕ). not (aborted k)) (upto n) n in
    let rest = picked_among aborted p n in
    one_on (aborted n) (nat_lt (unaborted aborted n) p) (unaborted aborted n) _ _ _ refl rest taken left where
      one_on : (a b : Bool) (u c c' u' : ℕ) → nat_lt u p ≡ b → c ≡ min p u → c' ≡ c + one_if (is_picked (fate_by a b)) → u' ≡ u + one_if (not a) → c' ≡ min p u'
      one_on true b u c c' u' e h f g = omega arith
      one_on false true u c c' u' e h f g = omega (arith, ltb-true u p e)
      one_on false false u c c' u' e h f g = omega (arith, ltb-false u p e)

-- a sum over the numbers below n, of which the last is apart
sum_by-push : (f : ℕ → ℕ) (n : ℕ) → sum_by f (upto (suc n)) ≡ sum_by f (upto n) + f n
sum_by-push f n = sum_by-append f (upto n) (n ∷ []) ∙ omega arith

-- what is the same at each number but x has the same sum below x
sums_below : (f g : ℕ → ℕ) (x d : ℕ) → ((r : ℕ) → g r ≡ f r + (if x == r then d else 0)) → (n : ℕ) → n ≤ x
    → sum_by g (upto n) ≡ sum_by f (upto n)
sums_below f g x d h zero le = refl
sums_below f g x d h (suc n) le =
    let ef = sum_by-push f n in
    let eg = sum_by-push g n in
    let here : g n ≡ f n + 0 = rw (ne_eqb x n (λ e. omega arith)) at (h n) in
    let rest = sums_below f g x d h n (omega arith) in
    omega (arith, ef, eg, here, rest)

-- what is d more at one number has a sum that is d more
pub sums_differ : (f g : ℕ → ℕ) (x d : ℕ) → ((r : ℕ) → g r ≡ f r + (if x == r then d else 0)) → (n : ℕ) → x < n
    → sum_by g (upto n) ≡ sum_by f (upto n) + d
sums_differ f g x d h zero lt = absurd (omega arith)
sums_differ f g x d h (suc n) lt =
    let ef = sum_by-push f n in
    let eg = sum_by-push g n in
    ⊎_elim
    (λ (same : x ≡ n).
    let here : g n ≡ f n + d = rw (eq-eqb x n same) at (h n) in
    let rest = sums_below f g x d h n (omega arith) in
    omega (arith, ef, eg, here, rest))
    (λ (other : x ≡ n → ⊥).
    let here : g n ≡ f n + 0 = rw (ne_eqb x n other) at (h n) in
    let rest = sums_differ f g x d h n (omega arith) in
    omega (arith, ef, eg, here, rest))
    (cases_eq x n)
