-- Counts and their slots: a count goes on for ever, and its slot goes round the ring.
use Rattle.std.proofs.Common.{◌≡◌, ℕ, ◌+◌, ◌-◌, ◌*◌, ◌<◌, ◌≤◌, ◌%◌, ◌/◌, sym, ap, ◌∙◌, arith, inl, inr, div-add-mod'}
use Rattle.std.proofs.lemmas.Bool.{cases_lt, cond-true, cond-false, lt-ltb, le-ltb, le-leb, lt-leb}
use Rattle.std.proofs.lemmas.Nat.{mod-mul-add, mod_below}
use Rattle.nvme_slots.specs.declared.ring.Ring.{Ring}
use Rattle.nvme_ctrl_log.specs.Doorbells.{gap}
use Rattle.nvme_slots.specs.Rings.{next_slot, HasCounts}

-- the slot of a count that is d further on, in the same turn of the ring and in the next one
same_turn : (s n d : ℕ) → n % s + d < s → (n + d) % s ≡ n % s + d
same_turn s n d below =
    let whole : n / s * s + n % s ≡ n = div-add-mod' n s in
    let parts : n + d ≡ n / s * s + (n % s + d) = omega (arith, whole) in
    ap (λ (x : ℕ). x % s) parts ∙ mod-mul-add (n / s) s (n % s + d) below

next_turn : (s n d : ℕ) → 0 < s → d < s → s ≤ n % s + d → (n + d) % s ≡ n % s + d - s
next_turn s n d some near over =
    let whole : n / s * s + n % s ≡ n = div-add-mod' n s in
    let below : n % s < s = mod_below n s some in
    let turn : (n / s + 1) * s ≡ n / s * s + s = grind arith in
    let parts : n + d ≡ (n / s + 1) * s + (n % s + d - s) = omega (arith, whole, turn, over) in
    ap (λ (x : ℕ). x % s) parts ∙ mod-mul-add (n / s + 1) s (n % s + d - s) (omega (arith, below, near, over))

-- the next count has the next slot
next-is : (s n : ℕ) → 0 < s → next_slot s (n % s) ≡ (n + 1) % s
next-is s n some = elim (cases_lt (n % s + 1) s) [
  | inl within ↦ cond-true _ _ _ (lt-ltb _ _ within) ∙ sym (same_turn s n 1 within)
  | inr over ↦ cond-false _ _ _ (le-ltb _ _ over) ∙ (elim (cases_lt 1 s) [
    | inl more ↦ (let below : n % s < s = mod_below n s some in let zero : n % s + 1 - s ≡ 0 = omega (arith, below) in sym (next_turn s n 1 some more over ∙ zero))
    | inr one ↦ (let below : (n + 1) % s < s = mod_below (n + 1) s some in omega (arith, below, one))
  ])
]

-- from the slot of a count it is as far to that of a later one as between the counts, within a turn
gap-is : (s n m : ℕ) → 0 < s → n ≤ m → m < n + s → gap s (n % s) (m % s) + n ≡ m
gap-is s n m some order near =
    let rest : n + (m - n) ≡ m = omega (arith, order) in
    let below : n % s < s = mod_below n s some in
    elim (cases_lt (n % s + (m - n)) s) [
      | inl within ↦
          let slot : m % s ≡ n % s + (m - n) = ap (λ (x : ℕ). x % s) (sym rest) ∙ same_turn s n (m - n) within in
          let is : gap s (n % s) (m % s) ≡ m % s - n % s = cond-true _ _ _ (le-leb (n % s) (m % s) (omega (arith, slot))) in
          omega (arith, slot, is, order)
      | inr over ↦
          let slot : m % s ≡ n % s + (m - n) - s = ap (λ (x : ℕ). x % s) (sym rest) ∙ next_turn s n (m - n) some (omega (arith, near, order)) over in
          let is : gap s (n % s) (m % s) ≡ m % s + s - n % s = cond-false _ _ _ (lt-leb (n % s) (m % s) (omega (arith, slot, near, order))) in
          omega (arith, slot, is, order, below, over)
    ]

-- and that far on from a count is the slot
gap-reaches : (s n t : ℕ) → 0 < s → t < s → (n + gap s (n % s) t) % s ≡ t
gap-reaches s n t some slot =
    let below : n % s < s = mod_below n s some in
    elim (cases_lt t (n % s)) [
      | inl before ↦
          let is : gap s (n % s) t ≡ t + s - n % s = cond-false _ _ _ (lt-leb _ _ before) in
          rw is (next_turn s n (t + s - n % s) some (omega (arith, before, below)) (omega (arith, below)) ∙ omega (arith, before, below))
      | inr after ↦
          let is : gap s (n % s) t ≡ t - n % s = cond-true _ _ _ (le-leb _ _ after) in
          rw is (same_turn s n (t - n % s) (omega (arith, after, slot)) ∙ omega (arith, after))
    ]

-- ---- the ring's steps
pub filled-is : (ring : Ring) (read written : ℕ) → HasCounts ring read written → gap ring.slots ring.head ring.tail + read ≡ written
filled-is ring read written h = rw (h.head_is, h.tail_is) (gap-is ring.slots read written h.some h.order h.fits)

pub reads : (ring : Ring) (read written : ℕ) → HasCounts ring read written → read < written
    → HasCounts (record ring { head = next_slot ring.slots ring.head }) (read + 1) written
reads ring read written h more = record {
  some = h.some;
  head_is = ap (next_slot ring.slots) h.head_is ∙ next-is ring.slots read h.some;
  tail_is = h.tail_is;
  order = omega (arith, more);
  fits = omega (arith, h.fits);
}

pub writes : (ring : Ring) (read written : ℕ) → HasCounts ring read written → written + 1 < read + ring.slots
    → HasCounts (record ring { tail = next_slot ring.slots ring.tail }) read (written + 1)
writes ring read written h room = record {
  some = h.some;
  head_is = h.head_is;
  tail_is = ap (next_slot ring.slots) h.tail_is ∙ next-is ring.slots written h.some;
  order = omega (arith, h.order);
  fits = omega (arith, room);
}

pub writes-to : (ring : Ring) (read written slot : ℕ) → HasCounts ring read written → slot < ring.slots
    → gap ring.slots ring.head ring.tail + gap ring.slots ring.tail slot < ring.slots
    → HasCounts (record ring { tail = slot }) read (written + gap ring.slots (written % ring.slots) slot)
writes-to ring read written slot h is_slot room =
    let filled : gap ring.slots ring.head ring.tail + read ≡ written = filled-is ring read written h in
    let same : gap ring.slots ring.tail slot ≡ gap ring.slots (written % ring.slots) slot = ap (λ (x : ℕ). gap ring.slots x slot) h.tail_is in
    record {
      some = h.some;
      head_is = h.head_is;
      tail_is = sym (gap-reaches ring.slots written slot h.some is_slot);
      order = omega (arith, h.order);
      fits = omega (arith, filled, same, room);
    }

pub reads-to : (ring : Ring) (read written slot : ℕ) → HasCounts ring read written → slot < ring.slots
    → gap ring.slots ring.head slot ≤ gap ring.slots ring.head ring.tail
    → HasCounts (record ring { head = slot }) (read + gap ring.slots (read % ring.slots) slot) written
reads-to ring read written slot h is_slot filled_there =
    let filled : gap ring.slots ring.head ring.tail + read ≡ written = filled-is ring read written h in
    let same : gap ring.slots ring.head slot ≡ gap ring.slots (read % ring.slots) slot = ap (λ (x : ℕ). gap ring.slots x slot) h.head_is in
    record {
      some = h.some;
      head_is = sym (gap-reaches ring.slots read slot h.some is_slot);
      tail_is = h.tail_is;
      order = omega (arith, filled, same, filled_there);
      fits = let near = h.fits in omega (arith, near);
    }
