-- No entry may be fetched of a queue outside the set of those that may have some.
use Rattle.std.proofs.Common.{◌≡◌, ℕ, ◌<◌, ◌≤◌, inl, inr, Bool, false, List}
use Rattle.std.proofs.lemmas.Bool.{cases_lt}
use Rattle.nvme_log.specs.Rules.{FrontRules}
use Rattle.nvme_ctrl_log.specs.Notes.{Notes}
use Rattle.nvme_ctrl.specs.NextQueue.{HasFetch, turns_before}
use Rattle.nvme_slots.specs.declared.slot.Slot.{Slot}
use Rattle.nvme_ctrl.specs.declared.state.Controller.{Controller}
use Rattle.nvme_ctrl.specs.inside.Turns.{IsNextTurn}
use Rattle.nvme_ctrl.specs.kept.Kept.{StandsAt}
use Rattle.nvme_ctrl.specs.kept.QueueSets.{has_queue}
use Rattle.nvme_ctrl.proofs.FetchTold.{is_fetchable}

pub unrung : (rules : FrontRules) (late : Bool) (notes : Notes) (c : Controller) (slots : List Slot) → StandsAt rules late notes c slots
    → (p : ℕ) → p ≤ 64 → has_queue c.rung p ≡ false → HasFetch rules notes c slots p → ⊥
unrung rules late notes c slots s p few out has =
    (is_fetchable rules late notes c slots s p has.0 has.1).some_submitted (s.numbers.sqs.rung p few out)

-- where no queue has work whose turn comes before one, none has before the next of the set from there on
pub none_between : (rules : FrontRules) (late : Bool) (notes : Notes) (c : Controller) (slots : List Slot) → StandsAt rules late notes c slots
    → (last turn next : ℕ) → IsNextTurn c.rung last turn next → ((p : ℕ) → p ≤ 64 → turns_before last p < turn → HasFetch rules notes c slots p → ⊥)
    → (p : ℕ) → p ≤ 64 → turns_before last p < next → HasFetch rules notes c slots p → ⊥
none_between rules late notes c slots s last turn next is none p few before has = elim (cases_lt (turns_before last p) turn) [
  | inl earlier ↦ none p few earlier has
  | inr from ↦ unrung rules late notes c slots s p few (is.none_between p few from before) has
]
