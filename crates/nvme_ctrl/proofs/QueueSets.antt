-- Sets of queues, and the queues outside them.
use Rattle.std.proofs.Common.{◌≡◌, ◌≢◌, ◌∙◌, ℕ, zero, suc, ◌+◌, ◌-◌, ◌/◌, ◌%◌, ◌^◌, ◌<◌, ◌≤◌, ◌==◌, ◌&&◌, not, inl, inr, Bool, true, false, List, length, refl, sym, ap, subst, arith}
use Rattle.std.specs.Prelude.{nat_le, slice_set, if◌then◌else◌}
use Rattle.std.specs.Int.{bit_at, w64, trailing_zeros}
use Rattle.std.proofs.lemmas.Bool.{cases_eq, cases_lt, eq-eqb, ne_eqb, eqb-false, lt-ltb, le-ltb, le-leb}
use Rattle.std.proofs.lemmas.Nat.{shr-shr, shr_below, pow_below}
use Rattle.std.proofs.lemmas.Nat.Bits.{bit_at-lt, bit_at_above, bit_at-trailing_zeros, bit_at-zero, bit_at_set_same, bit_at_set_other, bit_at_clear_other}
use Rattle.nvme_ctrl.specs.declared.state.SqState.{SqState}
use Rattle.nvme_ctrl.specs.declared.state.CqState.{CqState}
use Rattle.nvme_ctrl.specs.kept.State.{sq_at, cq_at}
use Rattle.nvme_ctrl.specs.kept.QueueSets.{has_queue, with_bit, with_queue, HasNoneAbove, IsFirstAbove, HoldsRung, HoldsReadied}
use Rattle.nvme_ctrl.proofs.Lives.{put_sq-states, put_cq-states}

-- ---- bits
-- an I/O queue without its bit is in no set, and one that is in none has no bit
bit-out : (set q : ℕ) → 0 < q → bit_at set (q - 1) ≡ 0 → has_queue set q ≡ false
bit-out set q some none = rw (ne_eqb q 0 (λ e. omega (arith, e, some)), none) (by (nat_le q 64)) where
  by : (b : Bool) → (b && false) ≡ false
  by true = refl
  by false = refl

pub record IsOut (set q : ℕ) : Type 0 where
  pub some : 0 < q
  pub none : bit_at set (q - 1) ≡ 0

out-bit : (set q : ℕ) → q ≤ 64 → has_queue set q ≡ false → IsOut set q
out-bit set q few out = elim (cases_eq q 0) [
  | inl z ↦ absurd (let in_each = rw (eq-eqb q 0 z) at out in cc in_each)
  | inr d ↦ (let said : (bit_at set (q - 1) == 1) ≡ false = rw (ne_eqb q 0 d, le-leb q 64 few) at out in
      let not_one = eqb-false (bit_at set (q - 1)) 1 said in
      let bit = bit_at-lt set (q - 1) in
      record { some = omega (arith, d); none = elim (cases_eq (bit_at set (q - 1)) 0) [ inl e ↦ e | inr e ↦ absurd (not_one (omega (arith, e, bit))) ] })
]

io_bit : (set q : ℕ) (on : Bool) → 0 < q → q ≤ 64 → with_queue set q on ≡ with_bit set (q - 1) on
io_bit set q on some few = rw (ne_eqb q 0 (λ e. omega (arith, e, some)), le-ltb 64 q few) refl

bit_other : (set bit i : ℕ) (on : Bool) → bit < 64 → i < 64 → i ≢ bit → bit_at (with_bit set bit on) i ≡ bit_at set i
bit_other set bit i true b l other = bit_at_set_other w64 set bit b i other
bit_other set bit i false b l other = bit_at_clear_other w64 set bit b i l other

-- a queue that is outside a set with it wasn't put in
put_out : (set q : ℕ) (on : Bool) → q ≤ 64 → has_queue (with_queue set q on) q ≡ false → on ≡ false
put_out set q true few out =
    let is = out-bit (with_queue set q true) q few out in
    let one = bit_at_set_same w64 set (q - 1) (omega (arith, few, is.some)) in
    let none = ap (λ s. bit_at s (q - 1)) (sym (io_bit set q true is.some few)) ∙ is.none in
    absurd (omega (arith, one, none))
put_out set q false few out = refl

-- another queue that is outside it was outside
other_out : (set q p : ℕ) (on : Bool) → p ≢ q → p ≤ 64 → has_queue (with_queue set q on) p ≡ false → has_queue set p ≡ false
other_out set q p on other few out = elim (cases_eq q 0) [
  | inl z ↦ (let same = rw (eq-eqb q 0 z) at out in same)
  | inr d ↦ elim (cases_lt 64 q) [
    | inl above ↦ (let same = rw (ne_eqb q 0 d, lt-ltb 64 q above) at out in same)
    | inr few_q ↦ (let is = out-bit (with_queue set q on) p few out in
        bit-out set p is.some (sym (bit_other set (q - 1) (p - 1) on (omega (arith, few_q, d)) (omega (arith, few, is.some)) (λ e. other (omega (arith, e, is.some, d))))
        ∙ sym (ap (λ s. bit_at s (p - 1)) (io_bit set q on (omega (arith, d)) few_q)) ∙ is.none))
  ]
]

pub not_false : (b : Bool) → not b ≡ false → b ≡ true
not_false true h = refl
not_false false h = absurd (cc h)

-- ---- the queues outside
-- where a queue has another state: it is put into the set, or has no work
pub rung-put : (set q : ℕ) (on : Bool) (sqs : List SqState) (state : SqState) → q < length sqs → HoldsRung set sqs
    → (on ≡ false → state.ring.head ≡ state.ring.tail) → HoldsRung (with_queue set q on) (slice_set sqs q state)
rung-put set q on sqs state there holds drained p few out =
    put_sq-states (λ x s. x ≡ p → s.ring.head ≡ s.ring.tail) sqs q state there
    (λ same. drained (put_out set q on (subst (λ n. n ≤ 64) (sym same) few) (subst (λ n. has_queue (with_queue set q on) n ≡ false) (sym same) out)))
    p (λ other same. holds p few (other_out set q p on other few out)) refl

pub readied-put : (set q : ℕ) (on : Bool) (cqs : List CqState) (state : CqState) → q < length cqs → HoldsReadied set cqs
    → (on ≡ false → state.ready.len ≡ 0) → HoldsReadied (with_queue set q on) (slice_set cqs q state)
readied-put set q on cqs state there holds empty p few out =
    put_cq-states (λ x s. x ≡ p → s.ready.len ≡ 0) cqs q state there
    (λ same. empty (put_out set q on (subst (λ n. n ≤ 64) (sym same) few) (subst (λ n. has_queue (with_queue set q on) n ≡ false) (sym same) out)))
    p (λ other same. holds p few (other_out set q p on other few out)) refl

-- where it has another state with no more work
pub rung-kept : (set q : ℕ) (sqs : List SqState) (state : SqState) → q < length sqs → HoldsRung set sqs
    → ((sq_at sqs q).ring.head ≡ (sq_at sqs q).ring.tail → state.ring.head ≡ state.ring.tail) → HoldsRung set (slice_set sqs q state)
rung-kept set q sqs state there holds drained p few out =
    put_sq-states (λ x s. x ≡ p → s.ring.head ≡ s.ring.tail) sqs q state there
    (λ same. drained (subst (λ x. (sq_at sqs x).ring.head ≡ (sq_at sqs x).ring.tail) (sym same) (holds p few out)))
    p (λ other same. holds p few out) refl

pub readied-kept : (set q : ℕ) (cqs : List CqState) (state : CqState) → q < length cqs → HoldsReadied set cqs
    → ((cq_at cqs q).ready.len ≡ 0 → state.ready.len ≡ 0) → HoldsReadied set (slice_set cqs q state)
readied-kept set q cqs state there holds empty p few out =
    put_cq-states (λ x s. x ≡ p → s.ready.len ≡ 0) cqs q state there
    (λ same. empty (subst (λ x. (cq_at cqs x).ready.len ≡ 0) (sym same) (holds p few out)))
    p (λ other same. holds p few out) refl

-- where an entry of it was read: it leaves the set if that was the last
pub rung-read : (set q : ℕ) (empty : Bool) (sqs : List SqState) (state : SqState) → q < length sqs → HoldsRung set sqs → (sq_at sqs q).ring.head ≢ (sq_at sqs q).ring.tail
    → (empty ≡ true → state.ring.head ≡ state.ring.tail) → HoldsRung (if empty then with_queue set q false else set) (slice_set sqs q state)
rung-read set q true sqs state there holds more drained = rung-put set q false sqs state there holds (λ none. drained refl)
rung-read set q false sqs state there holds more drained = rung-kept set q sqs state there holds (λ same. absurd (more same))

-- ---- the first above
-- a bit of what is left of a set from one on
bit_from : (set last i : ℕ) → bit_at (set / 2 ^ last) i ≡ bit_at set (last + i)
bit_from set last i = ap (λ n. n % 2) (shr-shr set last i)

left_fits : (set last : ℕ) → set < 2 ^ 64 → set / 2 ^ last < 2 ^ 64
left_fits set zero fits = shr_below set 64 0 fits
left_fits set (suc last) fits = shr_below set 64 (suc last) (let more = pow_below 64 (64 + suc last) (omega arith) in omega (arith, fits, more))

pub first-above : (set last : ℕ) → set < 2 ^ 64 → last < 64 → 0 < set / 2 ^ last → IsFirstAbove set last (last + 1 + trailing_zeros w64 (set / 2 ^ last))
first-above set last fits l some =
    let lowest = bit_at-trailing_zeros w64 (set / 2 ^ last) some (left_fits set last fits) in
    let first : ℕ = trailing_zeros w64 (set / 2 ^ last) in
    let one : bit_at set (last + first) ≡ 1 = sym (bit_from set last first) ∙ lowest.1 in
    record {
      above = omega arith;
      few = elim (cases_lt (last + first) 64) [ inl below ↦ omega (arith, below) | inr past ↦ absurd (let none = bit_at_above set 64 (last + first) fits past in omega (arith, one, none)) ];
      none_between = λ p above below. (let at : last + (p - 1 - last) ≡ p - 1 = omega (arith, above) in
          bit-out set p (omega (arith, above)) (ap (bit_at set) (sym at) ∙ sym (bit_from set last (p - 1 - last)) ∙ lowest.2 (p - 1 - last) (omega (arith, above, below))));
    }

pub none-above : (set last : ℕ) → set / 2 ^ last ≡ 0 → HasNoneAbove set last
none-above set last none p above few =
    let at : last + (p - 1 - last) ≡ p - 1 = omega (arith, above) in
    bit-out set p (omega (arith, above)) (ap (bit_at set) (sym at) ∙ sym (bit_from set last (p - 1 - last)) ∙ ap (λ n. bit_at n (p - 1 - last)) none ∙ bit_at-zero (p - 1 - last))
