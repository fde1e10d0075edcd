-- The command of the pending deletion.
use Rattle.std.proofs.Common.{◌≡◌, ℕ, ◌==◌, ◌&&◌, false, [], ◌∷◌, Option, Some, None, refl, sym, ap, ◌∙◌}
use Rattle.std.specs.Prelude.{is_some}
use Rattle.std.proofs.lemmas.Bool.{and_parts, false_from_ne_true}
use Rattle.nvme_log.specs.declared.event.Event.TheVariants.{Closing, ClosedSq}
use Rattle.nvme_log.specs.Rules.{Past}
use Rattle.nvme_log.specs.Queues.{Deletion, pending}
use Rattle.nvme_log.specs.Aborts.{is_index}
use Rattle.nvme_log.specs.Account.{deleting_place}
use Rattle.nvme_ctrl_log.specs.Notes.{Notes, logged}
use Rattle.nvme_ctrl_log.specs.Deletions.{deleting}
use Rattle.nvme_ctrl_log.specs.Laws.{NoneDeleting}
use Rattle.nvme_engine.specs.Standing.{IsPlain}
use Rattle.nvme_engine.proofs.OneDeletion.{deleting_is_pending, pending_is_deleting}

-- where no deletion is pending, no command began it
none_began : (past : Past) → pending past ≡ None → deleting_place past ≡ None
none_began [] none = refl
none_began (Closing qid region ∷ past) none = absurd (cc none)
none_began (ClosedSq qid region ∷ past) none = refl
none_began (e ∷ past) none = none_began past none

-- the pending deletion was begun by the command of an admin place
pub record HasDeleter (past : Past) (d : Deletion) : Type 0 where
  pub index : ℕ
  pub deletes : deleting past d.region ≡ Some index

module _ (notes : Notes) (plain : IsPlain notes) where
  abbrev past : Past
  past = logged notes

  pub has_deleter : (d : Deletion) → pending past ≡ Some d → HasDeleter past d
  has_deleter d is = by (deleting past d.region) refl where
    by : (o : Option ℕ) → deleting past d.region ≡ o → HasDeleter past d
    by None e = absurd (
        let no : is_some (deleting past d.region) ≡ false = ap (λ (o : Option ℕ). is_some o) e in
        let yes = pending_is_deleting past plain.alone d is in
        cc (no, yes))
    by (Some i) e = record { index = i; deletes = e }

  -- where no queue is being deleted, no deletion is pending
  pub none_pending : NoneDeleting past → pending past ≡ None
  none_pending none = by (pending past) refl where
    by : (o : Option Deletion) → pending past ≡ o → o ≡ None
    by None e = refl
    by (Some d) e = absurd (
        let some = (has_deleter d e).deletes in
        let no = none d.region in
        cc (no, some))

  -- a place that began no deletion isn't that of the pending one's command
  pub not_deleter : (r i : ℕ) → ((x : ℕ) → (r == 0 && is_index i (deleting past x)) ≡ false) → (r == 0 && is_index i (deleting_place past)) ≡ false
  not_deleter r i none = by (pending past) refl where
    by : (o : Option Deletion) → pending past ≡ o → (r == 0 && is_index i (deleting_place past)) ≡ false
    by None e = false_from_ne_true (r == 0 && is_index i (deleting_place past)) (λ yes.
        let no : is_index i (deleting_place past) ≡ false = ap (is_index i) (none_began past e) in
        let it = (and_parts (r == 0) (is_index i (deleting_place past)) yes).1 in
        cc (no, it))
    by (Some d) e =
        let it = has_deleter d e in
        let place = (deleting_is_pending past plain.deletes plain.alone d.region it.index it.deletes).place in
        ap (λ (o : Option ℕ). r == 0 && is_index i o) (place ∙ sym it.deletes) ∙ none d.region
