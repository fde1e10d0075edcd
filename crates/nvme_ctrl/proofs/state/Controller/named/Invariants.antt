-- None of the slots before the next one is named.
use Rattle.std.proofs.Common.{◌≡◌, ◌<◌, ℕ, false, length}
use Rattle.std.specs.Prelude.{min}
use Rattle.nvme_slots.specs.Pool.{slot_at}
use Rattle.nvme_slots.specs.Lookups.{is_found}
use Rattle.nvme_ctrl.proofs.state.Controller.named.Given as goal

abbrev pub invariant-loop-x : goal.invariant-loop-x
invariant-loop-x l = record {
  few : l.count ≡ min (length l.slots) 65536;
  none : (tag : ℕ) → tag < l.x → is_found (slot_at l.slots tag) l.qid l.cid ≡ false;
}
