-- At most one deletion is pending: the pending one is that of its region, and of no other.
use Rattle.std.proofs.Common.{◌≡◌, ℕ, ◌==◌, Bool, true, if◌then◌else◌, [], ◌∷◌, Option, Some, None, is_some, refl, sym, ap, ◌∙◌, inl, inr, true≢false}
use Rattle.std.proofs.lemmas.Bool.{cases_Bool, eq-eqb, eqb-true}
use Rattle.std.proofs.lemmas.Option.{same_Some}
use Rattle.nvme_log.specs.declared.event.Event.TheVariants.{Closing, ClosedSq}
use Rattle.nvme_log.specs.Rules.{Past, Each}
use Rattle.nvme_log.specs.Queues.{Deletion, pending}
use Rattle.nvme_log.specs.Account.{Deletes, deleting_place, latest_admin_place}
use Rattle.nvme_ctrl_log.specs.Deletions.{deleting}
use Rattle.nvme_ctrl_log.specs.Laws.{NoneDeleting}
use Rattle.nvme_engine.specs.Standing.{BeginsAlone}

-- the deletion of a region is the pending one, begun by the command of this place
pub record IsPendingBy (past : Past) (r i : ℕ) : Type 0 where
  pub deletion : Deletion
  pub is_pending : pending past ≡ Some deletion
  pub region : deletion.region ≡ r
  pub place : deleting_place past ≡ Some i

pub deleting_is_pending : (past : Past) → Each Deletes past → Each BeginsAlone past → (r i : ℕ) → deleting past r ≡ Some i → IsPendingBy past r i
deleting_is_pending [] h alone r i is = absurd (cc is)
deleting_is_pending (Closing qid region ∷ past) h alone r i is = elim (cases_Bool (region == r)) [
  | inl here ↦ record {
    deletion = record { qid = qid; region = region };
    is_pending = refl;
    region = eqb-true region r here;
    place = sym (ap (λ (b : Bool). if b then latest_admin_place past else deleting past r) here) ∙ is;
  }
  | inr other ↦
      let before = deleting_is_pending past h.1 alone.1 r i (sym (ap (λ (b : Bool). if b then latest_admin_place past else deleting past r) other) ∙ is) in
      let none : pending past ≡ None = alone.0.0 in
      let some = before.is_pending in
      absurd (cc (none, some))
]
deleting_is_pending (ClosedSq qid region ∷ past) h alone r i is = elim (cases_Bool (region == r)) [
  | inl here ↦ (let none : None ≡ Some i = sym (ap (λ (b : Bool). if b then None else deleting past r) here) ∙ is in absurd (cc none))
  | inr other ↦
      let before = deleting_is_pending past h.1 alone.1 r i (sym (ap (λ (b : Bool). if b then None else deleting past r) other) ∙ is) in
      let same = same_Some before.deletion (record { qid = qid; region = region }) (sym before.is_pending ∙ h.0.0) in
      let at : region ≡ r = sym (ap (λ (d : Deletion). d.region) same) ∙ before.region in
      absurd (true≢false (sym (eq-eqb region r at) ∙ other))
]
deleting_is_pending (e ∷ past) h alone r i is =
    let before = deleting_is_pending past h.1 alone.1 r i is in
    record { deletion = before.deletion; is_pending = before.is_pending; region = before.region; place = before.place }

-- where none is pending, no queue is being deleted
pub none_deleting : (past : Past) → Each Deletes past → Each BeginsAlone past → pending past ≡ None → NoneDeleting past
none_deleting past h alone none r = by (deleting past r) refl where
  by : (o : Option ℕ) → deleting past r ≡ o → o ≡ None
  by None is = refl
  by (Some i) is = let found = (deleting_is_pending past h alone r i is).is_pending in absurd (cc (none, found))

-- the queue of the pending deletion is being deleted
pub pending_is_deleting : (past : Past) → Each BeginsAlone past → (d : Deletion) → pending past ≡ Some d → is_some (deleting past d.region) ≡ true
pending_is_deleting [] alone d is = absurd (cc is)
pending_is_deleting (Closing qid region ∷ past) alone d is =
    let same : region ≡ d.region = ap (λ (x : Deletion). x.region) (same_Some (record { qid = qid; region = region }) d is) in
    ap (λ (b : Bool). is_some (if b then latest_admin_place past else deleting past d.region)) (eq-eqb region d.region same) ∙ alone.0.1
pending_is_deleting (ClosedSq qid region ∷ past) alone d is = absurd (cc is)
pending_is_deleting (e ∷ past) alone d is = pending_is_deleting past alone.1 d is
