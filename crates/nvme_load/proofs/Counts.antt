-- How many numbers pass a test.
use Rattle.std.proofs.Common.{◌≡◌, ℕ, zero, suc, ◌+◌, ◌-◌, ◌*◌, ◌%◌, ◌<◌, ◌≤◌, Bool, true, false, cond, nat_lt, ap, refl, arith}
use Rattle.std.proofs.lemmas.Bool.Decides.{nat_tests}
use Rattle.std.proofs.lemmas.Nat.{mod-mul-add}
use Rattle.nvme_load.specs.Counts.{count_below}

-- those of a + b numbers are those of the first a and of the b behind them
pub behind : (test : ℕ → Bool) (a b : ℕ) → count_below test (a + b) ≡ count_below test a + count_below (λ i. test (a + i)) b
unfolding count_below
behind test a zero = let e : a + 0 ≡ a = omega arith in rw e (omega arith)
behind test a (suc b) =
    let e : a + suc b ≡ suc (a + b) = omega arith in
    let so_far = behind test a b in
    rw e (omega (arith, so_far))

alike : (p q : ℕ → Bool) (n : ℕ) → ((i : ℕ) → i < n → p i ≡ q i) → count_below p n ≡ count_below q n
unfolding count_below
alike p q zero same = refl
alike p q (suc n) same =
    let so_far : count_below p n ≡ count_below q n = alike p q n (λ i l. same i (omega (arith, l))) in
    let here : p n ≡ q n = same n (omega arith) in
    rw (so_far, here) refl

-- a test of the remainder passes as many in each round
pub rounds : (test : ℕ → Bool) (n k : ℕ) → count_below (λ i. test (i % n)) (k * n) ≡ k * count_below test n
unfolding count_below
rounds test n zero = let e : 0 * n ≡ 0 = omega arith in rw e (omega arith)
rounds test n (suc k) =
    let e : suc k * n ≡ k * n + n = omega arith in
    let split : count_below (λ i. test (i % n)) (k * n + n) ≡ count_below (λ i. test (i % n)) (k * n) + count_below (λ i. test ((k * n + i) % n)) n =
    behind (λ i. test (i % n)) (k * n) n in
    let last : count_below (λ i. test ((k * n + i) % n)) n ≡ count_below test n =
    alike (λ i. test ((k * n + i) % n)) test n (λ i l. ap test (mod-mul-add k n i l)) in
    let more : suc k * count_below test n ≡ k * count_below test n + count_below test n = omega arith in
    rw (e, more) (omega (arith, split, last, rounds test n k))

-- where all answers are alike
pub all_alike : (test : ℕ → Bool) (b : Bool) (n : ℕ) → ((i : ℕ) → i < n → test i ≡ b) → count_below test n ≡ n * cond b 1 0
unfolding count_below
all_alike test b zero same = omega arith
all_alike test b (suc n) same =
    let so_far : count_below test n ≡ n * cond b 1 0 = all_alike test b n (λ i l. same i (omega (arith, l))) in
    let here : test n ≡ b = same n (omega arith) in
    let more : suc n * cond b 1 0 ≡ n * cond b 1 0 + cond b 1 0 = omega arith in
    rw (here, so_far, more) refl

-- a number that passes is counted behind it
later : (test : ℕ → Bool) (at j : ℕ) → test at ≡ true → count_below test at < count_below test (at + 1 + j)
unfolding count_below
later test at zero here = let e : at + 1 + 0 ≡ suc at = omega arith in rw (e, here) (omega arith)
later test at (suc j) here =
    let e : at + 1 + suc j ≡ suc (at + 1 + j) = omega arith in
    let so_far = later test at j here in
    rw e (omega (arith, so_far))

pub not_before : (test : ℕ → Bool) (at n : ℕ) → test at ≡ true → count_below test n ≤ count_below test at → n ≤ at
not_before test at n here all = go (nat_lt at n) refl
  where
    go : (b : Bool) → nat_lt at n ≡ b → n ≤ at
    go true e =
        let below : at < n = grind (arith, nat_tests) in
        let is : at + 1 + (n - (at + 1)) ≡ n = omega arith in
        let more : count_below test at < count_below test (at + 1 + (n - (at + 1))) = later test at (n - (at + 1)) here in
        let much : count_below test at < count_below test n = rw is at more in
        absurd (omega (arith, all, much))
    go false e = grind (arith, nat_tests)
