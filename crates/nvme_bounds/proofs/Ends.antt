-- So many commands that run all the time end in time.
use Rattle.std.proofs.Common.{◌≡◌, ℕ, zero, suc, ◌+◌, ◌-◌, ◌*◌, ◌/◌, ◌%◌, ◌<◌, ◌≤◌, ◌&&◌, inl, inr, ◌∷◌, [], Bool, true, false, nat_lt, nat_le, cond, List, count_by, All, refl, sym, ap, subst, ◌∙◌, arith}
use Rattle.std.proofs.lemmas.Bool.{cases_lt}
use Rattle.std.proofs.lemmas.Nat.{mod_below}
use Rattle.std.proofs.Math.Nat.{div-add-mod, mul_comm}
use Rattle.std.proofs.lemmas.Bool.Decides.{nat_tests}
use Rattle.std.proofs.lemmas.List.Elements.{All-head, All-tail}
use Rattle.std.proofs.lemmas.List.Sums.{sum_by-cons}
use Rattle.nvme_bounds.specs.Runs.{Run, IsBusy, LastAtMost, ends_between, ends_in, runs_at, time_behind}
use Rattle.nvme_bounds.specs.Laws.{EndsComeInTime}

one : Bool → ℕ
one b = cond b 1 0

count_more : (p : Run → Bool) (r : Run) (rest : List Run) → count_by p (r ∷ rest) ≡ one (p r) + count_by p rest
unfolding one
count_more p r rest = sum_by-cons (λ (r : Run). cond (p r) 1 0) r rest

-- what runs at a time ends behind it, a longest time later at most
run_ends : (longest from now : ℕ) (r : Run) → r.end ≤ r.start + longest → from ≤ now
    → one (ends_in from now r) + one (runs_at now r) ≤ one (ends_in from (now + longest) r)
unfolding one
run_ends longest from now r short later = go (ends_in from now r) (runs_at now r) (ends_in from (now + longest) r) refl refl refl
  where
    go : (a b d : Bool) → ends_in from now r ≡ a → runs_at now r ≡ b → ends_in from (now + longest) r ≡ d → cond a 1 0 + cond b 1 0 ≤ cond d 1 0
    go false false d x y z = omega arith
    go true false true x y z = omega arith
    go false true true x y z = omega arith
    go true true d x y z = absurd (grind (arith, nat_tests))
    go true false false x y z = absurd (grind (arith, nat_tests))
    go false true false x y z = absurd (grind (arith, nat_tests))

runs_end : (longest from now : ℕ) (runs : List Run) → LastAtMost longest runs → from ≤ now
    → count_by (ends_in from now) runs + count_by (runs_at now) runs ≤ count_by (ends_in from (now + longest)) runs
runs_end longest from now [] short later = omega arith
runs_end longest from now (r ∷ rest) short later =
    let here = run_ends longest from now r (All-head (λ (r : Run). r.end ≤ r.start + longest) r rest short) later in
    let others = runs_end longest from now rest (All-tail (λ (r : Run). r.end ≤ r.start + longest) r rest short) later in
    omega (arith, here, others, count_more (ends_in from now) r rest, count_more (runs_at now) r rest, count_more (ends_in from (now + longest)) r rest)

-- in so many longest times
turns_end : (longest least from to turns : ℕ) (runs : List Run) → LastAtMost longest runs → IsBusy least from to runs → from + turns * longest < to
    → turns * least ≤ count_by (ends_in from (from + turns * longest)) runs
turns_end longest least from to zero runs short busy early = omega arith
turns_end longest least from to (suc turns) runs short busy early =
    let before = turns_end longest least from to turns runs short busy (omega (arith, early)) in
    let now = from + turns * longest in
    let many : least ≤ count_by (runs_at now) runs = busy now (omega arith) (omega (arith, early)) in
    let more = runs_end longest from now runs short (omega arith) in
    let at : now + longest ≡ from + suc turns * longest = omega arith in
    subst (λ (n : ℕ). suc turns * least ≤ count_by (ends_in from n) runs) at (omega (arith, before, many, more))

-- the quotient and one more times the divisor is more
pub past_quotient : (n m : ℕ) → 0 < m → n < (n / m + 1) * m
past_quotient n m some =
    let parts : m * (n / m) + n % m ≡ n = div-add-mod n m in
    let rest : n % m < m = mod_below n m some in
    let turned : m * (n / m) ≡ n / m * m = mul_comm m (n / m) in
    omega (arith, parts, rest, turned)

one_of_fewer : (from early to : ℕ) (r : Run) → early < to → one (ends_in from early r) ≤ one (ends_between from to r)
unfolding one
one_of_fewer from early to r l = go (ends_in from early r) (ends_between from to r) refl refl
  where
    go : (a b : Bool) → ends_in from early r ≡ a → ends_between from to r ≡ b → cond a 1 0 ≤ cond b 1 0
    go false b x y = omega arith
    go true true x y = omega arith
    go true false x y = absurd (grind (arith, nat_tests))

fewer_end : (runs : List Run) (from early to : ℕ) → early < to → count_by (ends_in from early) runs ≤ count_by (ends_between from to) runs
fewer_end [] from early to l = omega arith
fewer_end (r ∷ rest) from early to l =
    let here = one_of_fewer from early to r l in
    let others = fewer_end rest from early to l in
    omega (arith, here, others, count_more (ends_in from early) r rest, count_more (ends_between from to) r rest)

pub ends_come_in_time : EndsComeInTime
ends_come_in_time runs longest least commands from to short some busy few =
    let turns = commands / least + 1 in
    elim (cases_lt (from + turns * longest) to) [
      | inl early ↦ (
          let many : turns * least ≤ count_by (ends_in from (from + turns * longest)) runs = turns_end longest least from to turns runs short busy early in
          let less = fewer_end runs from (from + turns * longest) to early in
          let more : commands < turns * least = past_quotient commands least some in
          absurd (omega (arith, many, less, more, few)))
      | inr late ↦ late
    ]
