-- How long it was on before a time, and when it was on so long.
use Rattle.std.proofs.Common.{◌≡◌, ◌∙◌, ℕ, ◌+◌, ◌-◌, ◌*◌, ◌/◌, ◌%◌, ◌<◌, ◌≤◌, Bool, true, false, nat_lt, cond, min, Some, None, IfSome, sym, ap, refl, arith, rules}
use Rattle.std.proofs.lemmas.Bool.Decides.{nat_tests}
use Rattle.std.proofs.lemmas.Nat.{div-add-mod', mod-mul-add, mod_below}
use Rattle.nvme_load.specs.Counts.{count_below}
use Rattle.nvme_load.specs.Phases.{ComesWhereOn, is_on, on_before, when_on}
use Rattle.nvme_load.specs.Times.{fitting}
use Rattle.nvme_load.proofs.Counts.{all_alike, behind, not_before, rounds}

-- in a cycle it is on as long as an on phase
cycle : (on off : ℕ) → count_below (λ i. nat_lt i on) (on + off) ≡ on
cycle on off =
    let split = behind (λ i. nat_lt i on) on off in
    let ons : count_below (λ i. nat_lt i on) on ≡ on * 1 = all_alike (λ i. nat_lt i on) true on (λ i l. search (rules, arith)) in
    let offs : count_below (λ i. nat_lt (on + i) on) off ≡ off * 0 =
    all_alike (λ i. nat_lt (on + i) on) false off (λ i l. grind (arith, nat_tests)) in
    omega (arith, split, ons, offs)

-- so many cycles, and a part of one
cycles : (on off k r : ℕ) → on_before on off (k * (on + off) + r) ≡ k * on + count_below (λ i. is_on on off (k * (on + off) + i)) r
cycles on off k r =
    let split = behind (is_on on off) (k * (on + off)) r in
    let all = rounds (λ i. nat_lt i on) (on + off) k in
    let each = ap (λ (n : ℕ). k * n) (cycle on off) in
    omega (arith, split, all, each)

-- within an on phase, and behind it
on_phase : (on off k r : ℕ) → r ≤ on → on_before on off (k * (on + off) + r) ≡ k * on + r
on_phase on off k r l =
    let ons : count_below (λ i. is_on on off (k * (on + off) + i)) r ≡ r * 1 =
    all_alike (λ i. is_on on off (k * (on + off) + i)) true r
    (λ i below. let e : (k * (on + off) + i) % (on + off) ≡ i = mod-mul-add k (on + off) i (omega (arith, l, below)) in
    let is : nat_lt i on ≡ true = grind (arith, nat_tests) in rw (e, is) refl) in
    let so_far = cycles on off k r in
    omega (arith, so_far, ons)

off_phase : (on off k j : ℕ) → j ≤ off → on_before on off (k * (on + off) + (on + j)) ≡ k * on + on
off_phase on off k j l =
    let c = on + off in
    let split = behind (λ i. is_on on off (k * c + i)) on j in
    let to_its_end = on_phase on off k on (omega arith) in
    let so_far = cycles on off k on in
    let offs : count_below (λ i. is_on on off (k * c + (on + i))) j ≡ j * 0 =
    all_alike (λ i. is_on on off (k * c + (on + i))) false j
    (λ i below. let e : (k * c + (on + i)) % c ≡ on + i = mod-mul-add k c (on + i) (omega (arith, l, below)) in
    let is : nat_lt (on + i) on ≡ false = grind (arith, nat_tests) in rw (e, is) refl) in
    let all = cycles on off k (on + j) in
    omega (arith, split, to_its_end, so_far, offs, all)

-- the sum that the code makes
pub closed : (on off time : ℕ) → 0 < on → time / (on + off) * on + min (time % (on + off)) on ≡ on_before on off time
closed on off time some =
    let k = time / (on + off) in
    let r = time % (on + off) in
    let is : k * (on + off) + r ≡ time = div-add-mod' time (on + off) in
    let below : r < on + off = mod_below time (on + off) (omega (arith, some)) in
    go k r is below (nat_lt r on) refl
  where
    go : (k r : ℕ) → k * (on + off) + r ≡ time → r < on + off → (b : Bool) → nat_lt r on ≡ b → k * on + min r on ≡ on_before on off time
    go k r is below true e =
        let l : r < on = grind (arith, nat_tests) in
        let least : min r on ≡ r = omega arith in
        rw least (sym (on_phase on off k r (omega arith)) ∙ ap (λ (t : ℕ). on_before on off t) is)
    go k r is below false e =
        let l : on ≤ r = grind (arith, nat_tests) in
        let least : min r on ≡ on = omega arith in
        let there : on + (r - on) ≡ r = omega arith in
        rw least (sym (off_phase on off k (r - on) (omega arith))
        ∙ (ap (λ (i : ℕ). on_before on off (k * (on + off) + i)) there ∙ ap (λ (t : ℕ). on_before on off t) is))

-- it is on there, and was on so long before
pub comes : (on off length : ℕ) → 0 < on → ComesWhereOn on off length
comes on off length some =
    let k = length / on in
    let r = length % on in
    let is : k * on + r ≡ length = div-add-mod' length on in
    let below : r < on = mod_below length on some in
    let there : (k * (on + off) + r) % (on + off) ≡ r = mod-mul-add k (on + off) r (omega (arith, below)) in
    let test : nat_lt r on ≡ true = grind (arith, nat_tests) in
    let yes : is_on on off (k * (on + off) + r) ≡ true = rw (there, test) refl in
    record { on_there = yes; on_so_long = on_phase on off k r (omega (arith, below)) ∙ is }

-- no time comes before the one that it is later than
later_time : (on off time gap : ℕ) → 0 < on → time ≤ when_on on off (on_before on off time + gap)
later_time on off time gap some =
    let length = on_before on off time + gap in
    let there = comes on off length some in
    not_before (is_on on off) (when_on on off length) time there.on_there (omega (arith, there.on_so_long))

pub forward : (on off time gap : ℕ) → 0 < on → IfSome (fitting (when_on on off (on_before on off time + gap))) (λ at. time ≤ at)
forward on off time gap some =
    let at = when_on on off (on_before on off time + gap) in
    elim (nat_lt at 0x1_0000_0000_0000_0000) as (λ b. IfSome (cond b (Some at) None) (λ at. time ≤ at)) [
      | true ↦ later_time on off time gap some
      | false ↦ tt
    ]
