-- The phase tag of a ring turns where the next count comes round to the first slot.
use Rattle.std.proofs.Common.{◌≡◌, ℕ, ◌+◌, ◌*◌, ◌<◌, ◌≤◌, ◌%◌, ◌/◌, ◌==◌, not, refl, sym, ap, ◌∙◌, arith, inl, inr, div-add-mod'}
use Rattle.std.proofs.lemmas.Bool.{cases_lt, cases_eq, ne_eqb}
use Rattle.std.proofs.lemmas.Nat.{div-mul-add, mod-mul-add, mod_below}
use Rattle.nvme_log.specs.Completions.{phase_after}
use Rattle.nvme_slots.specs.declared.ring.Ring.{Ring}
use Rattle.nvme_slots.specs.Rings.{HasCounts}

-- the next number is even where a number is odd
parity : (m : ℕ) → ((m + 1) % 2 == 0) ≡ not (m % 2 == 0)
parity m = elim (cases_eq (m % 2) 0) [
  | inl even ↦ (let next : (m + 1) % 2 ≡ 1 = omega (arith, even) in rw (next, even) refl)
  | inr odd ↦ (let next : (m + 1) % 2 ≡ 0 = omega (arith, odd) in rw (next, ne_eqb (m % 2) 0 odd) refl)
]

-- the next count is in the same turn of the ring, or the first of the next one
same_turn : (s n : ℕ) → n % s + 1 < s → ((n + 1) / s ≡ n / s) × ((n + 1) % s ≡ n % s + 1)
same_turn s n below =
    let whole : n / s * s + n % s ≡ n = div-add-mod' n s in
    let parts : n + 1 ≡ n / s * s + (n % s + 1) = omega (arith, whole) in (
      ap (λ (x : ℕ). x / s) parts ∙ div-mul-add (n / s) s (n % s + 1) below,
      ap (λ (x : ℕ). x % s) parts ∙ mod-mul-add (n / s) s (n % s + 1) below,
    )

next_turn : (s n : ℕ) → 0 < s → s ≤ n % s + 1 → ((n + 1) / s ≡ n / s + 1) × ((n + 1) % s ≡ 0)
next_turn s n some over =
    let whole : n / s * s + n % s ≡ n = div-add-mod' n s in
    let below : n % s < s = mod_below n s some in
    let turn : (n / s + 1) * s ≡ n / s * s + s = grind arith in
    let parts : n + 1 ≡ (n / s + 1) * s + 0 = omega (arith, whole, turn, over, below) in (
      ap (λ (x : ℕ). x / s) parts ∙ div-mul-add (n / s + 1) s 0 some,
      ap (λ (x : ℕ). x % s) parts ∙ mod-mul-add (n / s + 1) s 0 some,
    )

pub phase-turns : (s n : ℕ) → 0 < s → (n + 1) % s ≡ 0 → phase_after (n + 1) s ≡ not (phase_after n s)
phase-turns s n some first = elim (cases_lt (n % s + 1) s) [
  | inl within ↦ (let same : (n + 1) % s ≡ n % s + 1 = (same_turn s n within).1 in absurd (omega (arith, same, first)))
  | inr over ↦ ap (λ (m : ℕ). m % 2 == 0) (next_turn s n some over).0 ∙ parity (n / s)
]

pub phase-stays : (s n : ℕ) → 0 < s → ((n + 1) % s ≡ 0 → ⊥) → phase_after (n + 1) s ≡ phase_after n s
phase-stays s n some other = elim (cases_lt (n % s + 1) s) [
  | inl within ↦ ap (λ (m : ℕ). m % 2 == 0) (same_turn s n within).0
  | inr over ↦ absurd (other (next_turn s n some over).1)
]

-- the first slot is that of the next count where the tail comes to it
pub turned : (ring : Ring) (slots read written old new : ℕ) → HasCounts ring read (written + 1) → ring.slots ≡ slots → ring.tail ≡ 0 → (new == 1) ≡ not (old == 1)
    → (old == 1) ≡ phase_after written slots → (new == 1) ≡ phase_after (written + 1) slots
turned ring slots read written old new h same first turns was =
    let some : 0 < slots = omega (arith, h.some, same) in
    let slot : (written + 1) % slots ≡ 0 = ap (λ (s : ℕ). (written + 1) % s) (sym same) ∙ sym h.tail_is ∙ first in
    turns ∙ ap not was ∙ sym (phase-turns slots written some slot)

pub unturned : (ring : Ring) (slots read written old : ℕ) → HasCounts ring read (written + 1) → ring.slots ≡ slots → (ring.tail ≡ 0 → ⊥)
    → (old == 1) ≡ phase_after written slots → (old == 1) ≡ phase_after (written + 1) slots
unturned ring slots read written old h same other was =
    let some : 0 < slots = omega (arith, h.some, same) in
    was ∙ sym (phase-stays slots written some (λ e. other (h.tail_is ∙ ap (λ (s : ℕ). (written + 1) % s) same ∙ e)))
