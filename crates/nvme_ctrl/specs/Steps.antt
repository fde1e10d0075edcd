-- The steps of arbitration of a controller, and the end of a deletion. (Base Specification, Command Arbitration, Admin Command Set)
use Rattle.std.specs.Prelude.{◌≡◌, ℕ, Bool, List, ◌∷◌, Option, Some, None, IsSomeAnd, slice_get}
use Rattle.nvme_arbiter.specs.declared.pick.Pick.{Pick}
use Rattle.nvme_admin.specs.declared.verdict.Verdict.{Verdict}
use Rattle.nvme_admin.specs.declared.verdict.Verdict.TheVariants as verdict
use Rattle.nvme_admin.specs.Effects.{verdict_in}
use Rattle.nvme_admin.specs.declared.effect.Effect.{Effect}
use Rattle.nvme_placing.specs.Telling.{IsToldBy}
use Rattle.nvme_entry.specs.declared.submission.Sqe.{Sqe}
use Rattle.nvme_entry.specs.Status.{success}
use Rattle.nvme_log.specs.declared.event.Event.TheVariants as event
use Rattle.nvme_log.specs.Rules.{FrontRules}
use Rattle.nvme_log.specs.Queues.{qid_of_region}
use Rattle.nvme_log.specs.Places.{waiting, entry_at}
use Rattle.nvme_log.specs.Effects.{made_by}
use Rattle.nvme_log.specs.Answers.{Answer}
use Rattle.nvme_ctrl_log.specs.Deletions.{deleting}
use Rattle.nvme_ctrl_log.specs.Notes.{Notes, Logged, Passed, Answered, logged}
use Rattle.nvme_ctrl_log.specs.Making.{placing_in, placed}
use Rattle.nvme_ctrl.specs.Standing.{Stands}
use Rattle.nvme_slots.specs.declared.slot.Slot.{Slot}
use Rattle.nvme_ctrl.specs.declared.state.Controller.{Controller}
use Rattle.nvme_ctrl.specs.declared.picks.Step.{Step}
use Rattle.nvme_ctrl.specs.declared.picks.Step.TheVariants.{Idle, Busy, NoRoom, Picked, Passed as PassedOn, Done}
use Rattle.nvme_ctrl_log.specs.Steps.{IsNextPick, with_logged, picked_notes, with_answer, IsNextWithin, IsBusy, LacksRoom}

-- how a command is answered that was carried out: as its verdict says, later where the deletion of a submission queue began, and with success where it
-- made something else. Dword 0 of an Abort tells whether it found its command (Abort)
abbrev pub IsAnswerOf : Verdict → Option Answer → Type 0
IsAnswerOf (verdict.Done status dw0) answer = answer ≡ Some (record { status = status; dw0 = dw0 })
IsAnswerOf (verdict.BeginDelete qid) answer = answer ≡ None
IsAnswerOf (verdict.Abort sqid cid) answer = IsSomeAnd answer (λ a. a.status ≡ success)
IsAnswerOf v answer = answer ≡ Some (record { status = success; dw0 = 0 })

-- a pick of the admin queue: the command and its place, and what it makes. It is answered at once, but for the Delete of an open submission queue
pub record HasCarriedOut (rules : FrontRules) (late : Bool) (notes : Notes) (verdict : Verdict) (c : Controller) (slots : List Slot) : Type 0 where
  pub pick : Pick
  pub of_admin : pick.qid ≡ 0
  pub next : IsNextPick rules notes (Some pick)
  pub index : ℕ
  pub oldest : slice_get (waiting (logged notes) 0) 0 ≡ Some index
  pub answer : Option Answer
  pub answered : IsAnswerOf verdict answer
  pub stands : Stands rules late (with_answer index answer (with_logged (made_by (logged notes) verdict) (picked_notes notes pick))) c slots

-- so with its entry. The effect tells the verdict; where queues may lie anywhere, the verdict has another number for the region of a new queue, and the rules
-- have that region then
pub record HasDone (rules : FrontRules) (late : Bool) (notes : Notes) (effect : Effect) (entry : Sqe) (c : Controller) (slots : List Slot) : Type 0 where
  pub verdict : Verdict
  pub told : IsToldBy (placing_in rules) (verdict_in effect) verdict
  pub carried_out : HasCarriedOut (placed verdict entry rules) late notes verdict c slots
  pub its_entry : entry_at (logged notes) 0 carried_out.index ≡ Some entry

-- a pick of the admin queue, whose command is passed on to the device
pub record HasPassed (rules : FrontRules) (late : Bool) (notes : Notes) (pick : Pick) (c : Controller) (slots : List Slot) : Type 0 where
  pub of_admin : pick.qid ≡ 0
  pub next : IsNextPick rules notes (Some pick)
  pub index : ℕ
  pub oldest : slice_get (waiting (logged notes) 0) 0 ≡ Some index
  pub stands : Stands rules late (Passed index ∷ picked_notes notes pick) c slots

-- a step picked no command
abbrev pub PicksNone : Step → Type 0
PicksNone (Picked pick) = ⊥
PicksNone (PassedOn pick) = ⊥
PicksNone (Done effect entry) = ⊥
PicksNone step = Unit {0}

-- a step of arbitration, with room for so many commands. Where it did nothing, it leaves the controller as it was
abbrev pub HasStepped : FrontRules → Bool → Notes → (room : ℕ) → Step → Controller → List Slot → Type 0
HasStepped rules late notes room Idle c slots = Stands rules late notes c slots × IsNextPick rules notes None
HasStepped rules late notes room Busy c slots = Stands rules late notes c slots × IsBusy notes
HasStepped rules late notes room NoRoom c slots = Stands rules late notes c slots × LacksRoom rules notes room
HasStepped rules late notes room (Picked pick) c slots = IsNextWithin rules notes room (Some pick) × Stands rules late (picked_notes notes pick) c slots
HasStepped rules late notes room (PassedOn pick) c slots = HasPassed rules late notes pick c slots
HasStepped rules late notes room (Done effect entry) c slots = HasDone rules late notes effect entry c slots

-- the deletion of the queue of an identifier is finished, and its Delete is answered with success
pub record HasFinished (rules : FrontRules) (late : Bool) (notes : Notes) (qid : ℕ) (c : Controller) (slots : List Slot) : Type 0 where
  pub region : ℕ
  pub index : ℕ
  pub deletes : deleting (logged notes) region ≡ Some index
  pub named : qid_of_region (logged notes) region ≡ Some qid
  pub stands : Stands rules late (Answered 0 index (record { status = success; dw0 = 0 }) ∷ Logged (event.ClosedSq qid region) ∷ notes) c slots
