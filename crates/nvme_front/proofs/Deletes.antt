-- The pending deletion, by what the engine tells and by what was logged.
use Rattle.std.proofs.Common.{◌≡◌, Bool, true, false, Option, Some, None, List, refl, sym, ap, ◌∙◌}
use Rattle.std.specs.Prelude.{reverse, is_some}
use Rattle.nvme_log.specs.declared.event.Event.{Event}
use Rattle.nvme_log.specs.declared.event.Event.TheVariants as event
use Rattle.nvme_log.specs.Rules.{FrontRules, Past}
use Rattle.nvme_log.specs.Queues.{Deletion, pending}
use Rattle.nvme_ctrl_log.specs.Notes.{Notes, logged}
use Rattle.nvme_engine.specs.Standing.{StandsAt}
use Rattle.nvme_front.specs.declared.state.FrontState.{FrontState}
use Rattle.nvme_front.specs.inside.State.{past_of}
use Rattle.nvme_front.specs.inside.Room.{IsRunning}
use Rattle.nvme_front.specs.inside.Turn.{Finishes}
use Rattle.nvme_front.proofs.States.{past-push}

-- a deletion is pending
pub record IsDeleting (past : Past) : Type 0 where
  pub deletion : Deletion
  pub is_pending : pending past ≡ Some deletion

-- what an engine answers to the question whether one is
abbrev pub TellsDeleting : FrontState → Bool → Type 0
TellsDeleting s b = (rules : FrontRules) (late : Bool) (notes : Notes) → StandsAt rules late notes s.engine → b ≡ is_some (pending (logged notes))

module _ (s : FrontState) (k : IsRunning s) (b : Bool) (tells : TellsDeleting s b) where
  told : b ≡ is_some (pending (past_of s))
  told = tells _ _ k.notes k.stands ∙ ap (λ (p : Past). is_some (pending p)) k.past_is

  pub deletion_of : b ≡ true → IsDeleting (past_of s)
  deletion_of e = by (pending (past_of s)) refl (sym told ∙ e) where
    by : (o : Option Deletion) → pending (past_of s) ≡ o → is_some o ≡ true → IsDeleting (past_of s)
    by None is some = absurd (cc some)
    by (Some d) is some = record { deletion = d; is_pending = is }

  pub none_deleting : b ≡ false → pending (past_of s) ≡ None
  none_deleting e = by (pending (past_of s)) refl (sym told ∙ e) where
    by : (o : Option Deletion) → pending (past_of s) ≡ o → is_some o ≡ false → pending (past_of s) ≡ None
    by None is none = is
    by (Some d) is none = absurd (cc none)

-- none is pending where it was finished
pub closed_pending : (a b : FrontState) → Finishes a b → pending (past_of b) ≡ None
closed_pending a b ends =
    ap (λ (xs : List Event). pending (reverse xs)) ends.log_is
    ∙ ap pending (past-push a.log.items (event.ClosedSq ends.deletion.qid ends.deletion.region))
