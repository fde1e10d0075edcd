-- The area under the number of those that are there is the sum of their sojourns.
use Rattle.std.proofs.Common.{◌≡◌, ◌∙◌, ℕ, zero, suc, ◌+◌, ◌-◌, ◌*◌, ◌<◌, ◌≤◌, true, false, cond, nat_le, nat_lt, min, List, [], ◌∷◌, All, refl, sym, ap, arith, inl, inr}
use Rattle.std.specs.List.{sum_by}
use Rattle.std.proofs.lemmas.Bool.{cases_lt}
use Rattle.std.proofs.lemmas.Bool.Decides.{nat_tests}
use Rattle.std.proofs.lemmas.List.Sums.{sum_by-cons}
use Rattle.nvme_occupancy.specs.Stays.{IsDoneBy, IsLittle, Stay, area_until, is_there, number_at, sojourns_of}
use Rattle.nvme_occupancy.specs.Balances.{TellsArea}
use Rattle.nvme_occupancy.specs.declared.occupancy.Occupancy.{Occupancy}

-- what one adds at an instant, and the area under it
abbrev one_at : ℕ → Stay → ℕ
one_at t s = cond (is_there t s) 1 0

abbrev area_of : Stay → ℕ → ℕ
area_of s zero = 0
area_of s (suc t) = area_of s t + one_at t s

-- one more adds the area under it
first : (s : Stay) (stays : List Stay) (t : ℕ) → number_at (s ∷ stays) t ≡ one_at t s + number_at stays t
first s stays t = sum_by-cons (λ (x : Stay). one_at t x) s stays

area_first : (s : Stay) (stays : List Stay) (t : ℕ) → area_until (s ∷ stays) t ≡ area_of s t + area_until stays t
area_first s stays zero = refl
area_first s stays (suc t) =
    let rest : area_until (s ∷ stays) t ≡ area_of s t + area_until stays t = area_first s stays t in
    let here : number_at (s ∷ stays) t ≡ one_at t s + number_at stays t = first s stays t in
    omega (arith, rest, here)

area_none : (t : ℕ) → area_until [] t ≡ 0
area_none zero = refl
area_none (suc t) = let rest : area_until [] t ≡ 0 = area_none t in omega (arith, rest)

-- the area under one is as long as it was there
before : (t : ℕ) (s : Stay) → t < s.came → one_at t s ≡ 0
before t s l = let no : nat_le s.came t ≡ false = grind (arith, nat_tests) in rw no refl

within : (t : ℕ) (s : Stay) → s.came ≤ t → t < s.done → one_at t s ≡ 1
within t s l m =
    let yes : nat_le s.came t ≡ true = grind (arith, nat_tests) in
    let also : nat_lt t s.done ≡ true = grind (arith, nat_tests) in
    rw (yes, also) refl

after : (t : ℕ) (s : Stay) → s.came ≤ t → s.done ≤ t → one_at t s ≡ 0
after t s l m =
    let yes : nat_le s.came t ≡ true = grind (arith, nat_tests) in
    let no : nat_lt t s.done ≡ false = grind (arith, nat_tests) in
    rw (yes, no) refl

alone : (s : Stay) (t : ℕ) → s.came ≤ s.done → area_of s t + min t s.came ≡ min t s.done
alone s zero l = omega (arith, l)
alone s (suc t) l =
    let rest : area_of s t + min t s.came ≡ min t s.done = alone s t l in
    elim (cases_lt t s.came) [
      | inl early ↦ omega (arith, rest, l, before t s early)
      | inr came ↦ elim (cases_lt t s.done) [
        | inl there ↦ omega (arith, rest, l, within t s came there)
        | inr done ↦ omega (arith, rest, l, after t s came done)
      ]
    ]

later : (time : ℕ) (s : Stay) (stays : List Stay) → All (IsDoneBy time) (s ∷ stays) → All (IsDoneBy time) stays
later time s stays all = λ k d l. all (suc k) d (omega (arith, l))

pub little : (time : ℕ) (stays : List Stay) → IsLittle time stays
little time [] all = area_none time
little time (s ∷ stays) all =
    let here : IsDoneBy time s = all 0 s (omega arith) in
    let one : area_of s time + min time s.came ≡ min time s.done = alone s time here.after in
    let rest : area_until stays time ≡ sojourns_of stays = little time stays (later time s stays all) in
    let sum : sojourns_of (s ∷ stays) ≡ s.done - s.came + sojourns_of stays = sum_by-cons (λ (x : Stay). x.done - x.came) s stays in
    let area : area_until (s ∷ stays) time ≡ area_of s time + area_until stays time = area_first s stays time in
    omega (arith, area, one, here.after, here.before, rest, sum)

-- sojourns are the times at which all are done without those at which they came
split : (time : ℕ) (stays : List Stay) → All (IsDoneBy time) stays → sojourns_of stays + sum_by (λ (s : Stay). s.came) stays ≡ sum_by (λ (s : Stay). s.done) stays
split time [] all = refl
split time (s ∷ stays) all =
    let here : IsDoneBy time s = all 0 s (omega arith) in
    let rest : sojourns_of stays + sum_by (λ (s : Stay). s.came) stays ≡ sum_by (λ (s : Stay). s.done) stays = split time stays (later time s stays all) in
    omega (arith, here.after, rest, sum_by-cons (λ (x : Stay). x.done - x.came) s stays, sum_by-cons (λ (x : Stay). x.came) s stays, sum_by-cons (λ (x : Stay). x.done) s stays)

pub tells : (stays : List Stay) (o : Occupancy) → TellsArea stays o
tells stays o all is =
    let same : o.left * o.until ≡ o.came * o.until = ap (λ (n : ℕ). n * o.until) (is.left ∙ sym is.came) in
    omega (arith, o.balanced, same, is.came_times, is.left_times, split o.until stays all, little o.until stays all)
