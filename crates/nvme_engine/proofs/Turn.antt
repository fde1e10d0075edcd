-- One slot round a ring.
use Rattle.std.proofs.Common.{◌≡◌, ℕ, ◌+◌, ◌*◌, ◌/◌, ◌<◌, ◌≤◌, ◌%◌, refl, sym, ap, ◌∙◌, arith, inl, inr, div-add-mod'}
use Rattle.std.proofs.Math.Nat.{mod-eq_of_lt}
use Rattle.std.proofs.lemmas.Bool.{cases_lt}
use Rattle.std.proofs.lemmas.Nat.{mod-mul-add, mod_below}
use Rattle.nvme_ctrl_log.specs.Doorbells.{gap}
use Rattle.nvme_slots.proofs.Turns.{filled-is}

-- from the slot of a count to the next one it is one slot
pub gap-one : (s n : ℕ) → 2 ≤ s → gap s (n % s) ((n + 1) % s) ≡ 1
gap-one s n more =
    let is = filled-is (record { slots = s; head = n % s; tail = (n + 1) % s }) n (n + 1)
    (record { some = omega (arith, more); head_is = refl; tail_is = refl; order = omega arith; fits = omega (arith, more) }) in
    omega (arith, is)

-- the slot after that of a count is that of the next count
pub next-slot : (s n : ℕ) → 0 < s → (n % s + 1) % s ≡ (n + 1) % s
next-slot s n some =
    let whole : n / s * s + n % s ≡ n = div-add-mod' n s in
    let below : n % s < s = mod_below n s some in
    elim (cases_lt (n % s + 1) s) [
      | inl within ↦
          let parts : n + 1 ≡ n / s * s + (n % s + 1) = omega (arith, whole) in
          mod-eq_of_lt within ∙ sym (ap (λ (x : ℕ). x % s) parts ∙ mod-mul-add (n / s) s (n % s + 1) within)
      | inr over ↦
          let full : n % s + 1 ≡ s = omega (arith, below, over) in
          let turn : (n / s + 1) * s ≡ n / s * s + s = grind arith in
          let once : n % s + 1 ≡ 1 * s + 0 = omega (arith, full) in
          let parts : n + 1 ≡ (n / s + 1) * s + 0 = omega (arith, whole, turn, full) in
          ap (λ (x : ℕ). x % s) once ∙ mod-mul-add 1 s 0 some ∙ sym (ap (λ (x : ℕ). x % s) parts ∙ mod-mul-add (n / s + 1) s 0 some)
    ]
