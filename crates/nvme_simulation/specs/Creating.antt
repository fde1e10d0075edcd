-- Which admin commands created the queues of a controller. (Base Specification, Create I/O Completion Queue, Create I/O Submission Queue; addresses: profile)
use Rattle.std.specs.Prelude.{◌≡◌, ℕ, ◌+◌, ◌-◌, ◌*◌, Bool, true, false, All, List, [], ◌∷◌, ◌++◌, Some}
use Rattle.nvme_admin.specs.declared.effect.Effect.{Effect}
use Rattle.nvme_admin.specs.declared.effect.Effect.TheVariants.{OpenCq, OpenSq}
use Rattle.nvme_arbiter.specs.History.{settings_after}
use Rattle.nvme_arbiter.specs.Settings.{ArbitrationFields}
use Rattle.nvme_arbiter.specs.declared.settings.Class.{Class}
use Rattle.nvme_arbiter.specs.declared.settings.Mechanism.{Mechanism}
use Rattle.nvme_ctrl.specs.Standing.{Stands}
use Rattle.nvme_ctrl.specs.declared.state.Controller.{Controller}
use Rattle.nvme_ctrl_log.specs.Notes.{Notes, logged}
use Rattle.nvme_ctrl_log.specs.Tags.{answer_of}
use Rattle.nvme_entry.specs.AdminCommand.{admin_command_of}
use Rattle.nvme_entry.specs.Status.{success}
use Rattle.nvme_entry.specs.declared.admin.AdminCommand.{AdminCommand}
use Rattle.nvme_entry.specs.declared.admin.AdminCommand.TheVariants.{CreateCq, CreateSq}
use Rattle.nvme_entry.specs.declared.submission.Sqe.{Sqe}
use Rattle.nvme_log.specs.Histories.{arbitration_of}
use Rattle.nvme_log.specs.Places.{entry_at}
use Rattle.nvme_log.specs.Rules.{FrontRules}
use Rattle.nvme_simulation.specs.Entries.{priority_of}
use Rattle.nvme_simulation.specs.Loads.{Load}
use Rattle.nvme_simulation.specs.declared.front.Front.{Front}
use Rattle.nvme_slots.specs.declared.slot.Slot.{Slot}

-- the controller fetched an admin command, and answered it with success
pub record WasDone (notes : Notes) (command : AdminCommand) : Type 0 where
  pub index : ℕ
  pub entry : Sqe
  pub fetched : entry_at (logged notes) 0 index ≡ Some entry
  pub is : admin_command_of entry ≡ command
  pub answered : answer_of notes 0 index ≡ Some (record { status = success; dw0 = 0 })

-- a controller stands at notes of such commands, and arbitrates by this mechanism with these settings, which are still in force
pub record StandsAfter (mechanism : Mechanism) (settings : ArbitrationFields) (commands : List AdminCommand) (c : Controller) (slots : List Slot) : Type 0 where
  pub rules : FrontRules
  pub late : Bool
  pub notes : Notes
  pub stands : Stands rules late notes c slots
  pub in_time : late ≡ false
  pub mechanism_is : rules.mechanism ≡ mechanism
  pub settings_are : rules.start.settings ≡ settings
  pub in_force : settings_after rules.start.settings (arbitration_of (logged notes)) ≡ settings
  pub done : All (WasDone notes) commands

abbrev pub HasDone : Mechanism → ArbitrationFields → List AdminCommand → Front → Type 0
HasDone mechanism settings commands f = StandsAfter mechanism settings commands f.controller f.pool.items

-- these commands are done too
abbrev pub Does : List AdminCommand → (before after : Front) → Type 0
Does commands before after = (mechanism : Mechanism) (settings : ArbitrationFields) (done : List AdminCommand) → HasDone mechanism settings done before
    → HasDone mechanism settings (done ++ commands) after

-- what was done stays so
abbrev pub KeepsDone : (before after : Front) → Type 0
KeepsDone before after = (mechanism : Mechanism) (settings : ArbitrationFields) (done : List AdminCommand) → HasDone mechanism settings done before
    → HasDone mechanism settings done after

-- an admin command opened a queue
abbrev pub opens : Effect → Bool
opens (OpenCq qid region) = true
opens (OpenSq qid region cqid cq_region class) = true
opens effect = false

-- the Creates of a queue: of its completion queue, and of its submission queue, which is in a class and has that completion queue. Each has so many slots, of which QSIZE is zero
-- based, is contiguous, and lies where no other one does
abbrev pub creates_of : (qid slots : ℕ) → Class → List AdminCommand
creates_of qid slots class =
    CreateCq qid (slots - 1) (2 * qid * 4_096) true ∷ CreateSq qid (slots - 1) ((2 * qid + 1) * 4_096) qid (priority_of class) true ∷ []

-- those of queues whose identifiers count from one on
unfoldable pub creates_from : (first : ℕ) → List Load → List AdminCommand
creates_from first [] = []
creates_from first (load ∷ loads) = creates_of first load.slots load.class ++ creates_from (first + 1) loads
