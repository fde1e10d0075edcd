-- Sets of I/O queues, as masks: bit q - 1 is that of the queue of identifier q (profile).
use Rattle.std.specs.Prelude.{◌≡◌, ℕ, ◌-◌, ◌*◌, ◌%◌, ◌^◌, ◌<◌, ◌≤◌, ◌==◌, ◌&&◌, ◌||◌, Bool, true, false, nat_lt, nat_le, if◌then◌else◌, List, bit_and, bit_or}
use Rattle.std.specs.Int.{bit_at, bit_not, w64}
use Rattle.nvme_ctrl.specs.declared.state.SqState.{SqState}
use Rattle.nvme_ctrl.specs.declared.state.CqState.{CqState}
use Rattle.nvme_ctrl.specs.kept.State.{sq_at, cq_at}

-- a set with a bit, or without it
abbrev pub with_bit : ℕ → ℕ → Bool → ℕ
with_bit set bit true = bit_or set (1 * 2 ^ bit % 2 ^ 64)
with_bit set bit false = bit_and set (bit_not w64 (1 * 2 ^ bit % 2 ^ 64))

-- a set with a queue, or without it
abbrev pub with_queue : ℕ → ℕ → Bool → ℕ
with_queue set q on = if q == 0 || nat_lt 64 q then set else with_bit set (q - 1) on

-- whether a queue is in a set: the admin queue is in each
abbrev pub has_queue : ℕ → ℕ → Bool
has_queue set q = if q == 0 then true else (nat_le q 64 && bit_at set (q - 1) == 1)

-- no queue of a set is above an identifier
abbrev pub HasNoneAbove : (set last : ℕ) → Type 0
HasNoneAbove set last = (p : ℕ) → last < p → p ≤ 64 → has_queue set p ≡ false

-- a queue is above an identifier, and none of the set lies between
pub record IsFirstAbove (set last q : ℕ) : Type 0 where
  pub above : last < q
  pub few : q ≤ 64
  pub none_between : (p : ℕ) → last < p → p < q → has_queue set p ≡ false

-- of each submission queue that isn't in the set all that was submitted is fetched
abbrev pub HoldsRung : ℕ → List SqState → Type 0
HoldsRung set sqs = (q : ℕ) → q ≤ 64 → has_queue set q ≡ false → (sq_at sqs q).ring.head ≡ (sq_at sqs q).ring.tail

-- in each completion queue that isn't in the set nothing is ready
abbrev pub HoldsReadied : ℕ → List CqState → Type 0
HoldsReadied set cqs = (q : ℕ) → q ≤ 64 → has_queue set q ≡ false → (cq_at cqs q).ready.len ≡ 0
