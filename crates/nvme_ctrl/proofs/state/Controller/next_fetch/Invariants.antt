-- None of the queues has work whose turn came.
use Rattle.std.proofs.Common.{◌-◌, ◌<◌, ◌≤◌, ℕ, Bool, List}
use Rattle.nvme_log.specs.Rules.{FrontRules}
use Rattle.nvme_ctrl_log.specs.Notes.{Notes}
use Rattle.nvme_ctrl.specs.Standing.{Stands}
use Rattle.nvme_ctrl.specs.NextQueue.{HasFetch, turns_before}
use Rattle.nvme_slots.specs.declared.slot.Slot.{Slot}
use Rattle.nvme_ctrl.proofs.state.Controller.next_fetch.Given as goal

abbrev pub invariant-loop-next : goal.invariant-loop-next
invariant-loop-next l = record {
  few : l.turn ≤ 65;
  last : l.last ≤ 64;
  none : (rules : FrontRules) (late : Bool) (notes : Notes) (slots : List Slot) → Stands rules late notes l.self slots → (p : ℕ) → p ≤ 64 → turns_before l.last p < l.turn → HasFetch rules notes l.self slots p → ⊥;
}

abbrev pub decreases-loop-next : goal.decreases-loop-next
decreases-loop-next l = 65 - l.turn
