-- Laws of controllers, in the words of those who embed one. (profile)
use Rattle.std.specs.Prelude.{◌≡◌, ◌↔◌, Bool, false, List, Some}
use Rattle.std.specs.List.{Contains}
use Rattle.nvme_arbiter.specs.declared.pick.Seen.{Seen}
use Rattle.nvme_log.specs.Rules.{FrontRules}
use Rattle.nvme_ctrl_log.specs.Notes.{Notes, logged}
use Rattle.nvme_ctrl_log.specs.Observation.{seen_in, observed_of}
use Rattle.nvme_ctrl_log.specs.Account.{IsAccount}
use Rattle.nvme_ctrl.specs.Standing.{Stands}
use Rattle.nvme_slots.specs.declared.slot.Slot.{Slot}
use Rattle.nvme_ctrl.specs.declared.state.Controller.{Controller}
use Rattle.nvme_ctrl_log.specs.Laws.{HoldsFewSlots}

-- what arbitration sees at a controller's log are the open queues, each as it is seen in its identifier: an item is among them exactly where it is that of its
-- identifier
abbrev pub SeenOneByOne : Type 0
SeenOneByOne = (rules : FrontRules) (late : Bool) (notes : Notes) (c : Controller) (slots : List Slot) → Stands rules late notes c slots
    → (seen : Seen) → Contains (observed_of notes) seen ↔ (seen_in notes seen.qid ≡ Some seen)

-- the log at which a controller stands is an account, where no region was added late
abbrev pub ControllersKeepAccounts : Type 0
ControllersKeepAccounts = (rules : FrontRules) (notes : Notes) (c : Controller) (slots : List Slot) → Stands rules false notes c slots → IsAccount rules notes

abbrev pub FewHoldSlots : Type 0
FewHoldSlots = (rules : FrontRules) (late : Bool) (notes : Notes) (c : Controller) (slots : List Slot) → Stands rules late notes c slots → HoldsFewSlots rules (logged notes)
