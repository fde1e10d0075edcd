-- Sums over regions.
use Rattle.std.proofs.Common.{◌≡◌, ℕ, zero, suc, ◌+◌, ◌*◌, ◌<◌, ◌≤◌, Bool, true, false, sum_by, refl, subst, arith, inl, inr}
use Rattle.std.proofs.lemmas.Bool.{cases_eq}
use Rattle.std.proofs.lemmas.List.Sums.{sum_by_push}
use Rattle.nvme_log.specs.Places.{one_if}
use Rattle.nvme_log.specs.Rules.{upto}

-- sums of what is the same
pub sum_same : (f g : ℕ → ℕ) (n : ℕ) → ((r : ℕ) → r < n → g r ≡ f r) → sum_by g (upto n) ≡ sum_by f (upto n)
sum_same f g zero h = refl
sum_same f g (suc n) h = omega (arith, sum_by_push f (upto n) n, sum_by_push g (upto n) n, sum_same f g n (λ r lt. h r (omega (arith, lt))), h n (omega arith))

-- of what is no more
pub sum_less : (f g : ℕ → ℕ) (n : ℕ) → ((r : ℕ) → r < n → g r ≤ f r) → sum_by g (upto n) ≤ sum_by f (upto n)
sum_less f g zero h = omega arith
sum_less f g (suc n) h = omega (arith, sum_by_push f (upto n) n, sum_by_push g (upto n) n, sum_less f g n (λ r lt. h r (omega (arith, lt))), h n (omega arith))

-- of two together
pub sum_add : (f g h : ℕ → ℕ) (n : ℕ) → ((r : ℕ) → r < n → h r ≡ f r + g r) → sum_by h (upto n) ≡ sum_by f (upto n) + sum_by g (upto n)
sum_add f g h zero e = refl
sum_add f g h (suc n) e = omega (arith, sum_by_push f (upto n) n, sum_by_push g (upto n) n, sum_by_push h (upto n) n, sum_add f g h n (λ r lt. e r (omega (arith, lt))), e n (omega arith))

pub sum_none : (f : ℕ → ℕ) (n : ℕ) → ((r : ℕ) → f r ≡ 0) → sum_by f (upto n) ≡ 0
sum_none f zero h = refl
sum_none f (suc n) h = omega (arith, sum_by_push f (upto n) n, sum_none f n h, h n)

-- of what is at most one more at one place
pub sum_step : (f g : ℕ → ℕ) (x n : ℕ) → ((r : ℕ) → (x ≡ r → ⊥) → g r ≡ f r) → g x ≤ f x + 1 → sum_by g (upto n) ≤ sum_by f (upto n) + 1
sum_step f g x zero h one = omega arith
sum_step f g x (suc n) h one = elim (cases_eq x n) [
  | inl same ↦
      let below = sum_same f g n (λ r lt. h r (λ e. omega (arith, e, lt, same))) in
      let here : g n ≤ f n + 1 = subst (λ (y : ℕ). g y ≤ f y + 1) same one in
      omega (arith, sum_by_push f (upto n) n, sum_by_push g (upto n) n, below, here)
  | inr other ↦ omega (arith, sum_by_push f (upto n) n, sum_by_push g (upto n) n, sum_step f g x n h one, h n other)
]

-- of what is one more at one place that is there
pub sum_more : (f g : ℕ → ℕ) (x n : ℕ) → x < n → ((r : ℕ) → (x ≡ r → ⊥) → g r ≡ f r) → g x ≡ f x + 1 → sum_by g (upto n) ≡ sum_by f (upto n) + 1
sum_more f g x zero lt h one = absurd (omega (arith, lt))
sum_more f g x (suc n) lt h one = elim (cases_eq x n) [
  | inl same ↦
      let below = sum_same f g n (λ r less. h r (λ e. omega (arith, e, less, same))) in
      let here : g n ≡ f n + 1 = subst (λ (y : ℕ). g y ≡ f y + 1) same one in
      omega (arith, sum_by_push f (upto n) n, sum_by_push g (upto n) n, below, here)
  | inr other ↦ omega (arith, sum_by_push f (upto n) n, sum_by_push g (upto n) n, sum_more f g x n (omega (arith, lt, other)) h one, h n other)
]

-- a bound on each is one on the sum, which is less where one is less
pub sum_bound : (f : ℕ → ℕ) (m n : ℕ) → ((r : ℕ) → f r ≤ m) → sum_by f (upto n) ≤ n * m
sum_bound f m zero h = omega arith
sum_bound f m (suc n) h = let more : suc n * m ≡ n * m + m = omega arith in omega (arith, sum_by_push f (upto n) n, sum_bound f m n h, h n, more)

pub sum_below : (f : ℕ → ℕ) (m x n : ℕ) → ((r : ℕ) → f r ≤ m) → x < n → f x < m → sum_by f (upto n) < n * m
sum_below f m x zero h lt less = absurd (omega (arith, lt))
sum_below f m x (suc n) h lt less =
    let more : suc n * m ≡ n * m + m = omega arith in
    elim (cases_eq x n) [
      | inl same ↦
          let here : f n < m = subst (λ (y : ℕ). f y < m) same less in
          omega (arith, sum_by_push f (upto n) n, sum_bound f m n h, here, more)
      | inr other ↦ omega (arith, sum_by_push f (upto n) n, sum_below f m x n h (omega (arith, lt, other)) less, h n, more)
    ]

-- a test counts at most one
pub at_most : (b : Bool) → one_if b ≤ 1
at_most true = omega arith
at_most false = omega arith
