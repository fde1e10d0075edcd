-- A controller stands at its log, which nobody keeps (profile).
use Rattle.std.specs.Prelude.{Bool, List}
use Rattle.nvme_arbiter.specs.Layout.{is_arbiter}
use Rattle.nvme_log.specs.Rules.{FrontRules}
use Rattle.nvme_ctrl_log.specs.Notes.{Notes}
use Rattle.nvme_slots.specs.declared.slot.Slot.{Slot}
use Rattle.nvme_ctrl.specs.declared.state.Controller.{Controller}
use Rattle.nvme_ctrl.specs.kept.Kept.{StandsAt}

-- the controller with this pool stands at these notes. `late` says that a region was added after a Create that named its address was picked: then nothing is
-- said of the account
abbrev pub Stands : FrontRules → Bool → Notes → Controller → List Slot → Type 0
Stands rules late notes c slots = StandsAt rules late notes c slots

-- what arbitration keeps is in its ranges, as that of each controller is
abbrev pub has_arbiter : Controller → Bool
has_arbiter c = is_arbiter c.board.arbiter

-- a controller with its pool stands at some log
pub record IsController (c : Controller) (slots : List Slot) : Type 0 where
  pub rules : FrontRules
  pub late : Bool
  pub notes : Notes
  pub stands : Stands rules late notes c slots
