-- Whether some queue is being deleted, by the number of pending deletions.
use Rattle.std.proofs.Common.{◌≡◌, ◌≢◌, ℕ, suc, ◌==◌, Bool, not, List, [], ◌∷◌, Option, Some, None, refl, ap, ◌∙◌, arith, inl, inr}
use Rattle.std.specs.Prelude.{option_map}
use Rattle.std.proofs.lemmas.Bool.{cases_eq, eq-eqb}
use Rattle.std.proofs.lemmas.List.Sums.{sum_by-cons}
use Rattle.nvme_log.specs.Places.{one_if}
use Rattle.nvme_log.specs.Rules.{FrontRules}
use Rattle.nvme_ctrl_log.specs.Notes.{Notes, logged}
use Rattle.nvme_ctrl_log.specs.Deletions.{IsDeletingSome}
use Rattle.nvme_ctrl_log.specs.Laws.{NoneDeleting}
use Rattle.nvme_slots.specs.declared.slot.Slot.{Slot}
use Rattle.nvme_ctrl.specs.declared.state.Controller.{Controller}
use Rattle.nvme_ctrl.specs.declared.state.SqState.{SqState}
use Rattle.nvme_ctrl_content.specs.Content.{PendingDelete}
use Rattle.nvme_ctrl.specs.kept.Kept.{StandsAt}
use Rattle.nvme_ctrl.specs.kept.State.{sq_at, count_closing}
use Rattle.nvme_ctrl.proofs.PendingDeletions.{deletion_item, some_deletes, item_flagged, flagged_item, none_counted}

-- some queue is closing
pub record IsClosingSome (states : List SqState) : Type 0 where
  pub queue : ℕ
  pub closing : (sq_at states queue).closing ≢ 0

-- where some are counted, one is closing
pub some_counted : (states : List SqState) → count_closing states ≢ 0 → IsClosingSome states
some_counted [] some = absurd (some refl)
some_counted (state ∷ rest) some = elim (cases_eq state.closing 0) [
  | inl idle ↦
      let step = sum_by-cons (λ (x : SqState). one_if (not (x.closing == 0))) state rest in
      let here = ap (λ (b : Bool). one_if (not b)) (eq-eqb state.closing 0 idle) in
      let it = some_counted rest (λ none. some (omega (arith, step, here, none))) in
      record { queue = suc it.queue; closing = it.closing }
  | inr closing ↦ record { queue = 0; closing = closing }
]

module _ (rules : FrontRules) (late : Bool) (notes : Notes) (c : Controller) (slots : List Slot) (s : StandsAt rules late notes c slots) where
  -- where no deletion is kept, none began that isn't finished
  pub kept_none : ((r : ℕ) → s.content.deletion r ≡ None) → NoneDeleting (logged notes)
  kept_none none r = s.holds.deletion.place_is r ∙ ap (option_map (λ (d : PendingDelete). d.place.index)) (none r)

  pub none_deleting : c.pending_deletions ≡ 0 → NoneDeleting (logged notes)
  none_deleting idle = kept_none (λ r. by r (s.content.deletion r) refl) where
    by : (r : ℕ) (o : Option PendingDelete) → s.content.deletion r ≡ o → o ≡ None
    by r None is = refl
    by r (Some d) is =
        let it = some_deletes c.sqs c.pending_deletions slots s.content.sq_life s.content.deletion s.items.deletes s.has.deletions r d is in
        absurd (item_flagged c.sqs c.pending_deletions slots s.content.sq_life s.content.deletion s.items.deletes s.has.deletions r it.item it.is
        (none_counted c.sqs c.pending_deletions slots s.content.sq_life s.content.deletion s.items.deletes s.has.deletions idle it.item.qid))

  pub some_deleting : c.pending_deletions ≢ 0 → IsDeletingSome (logged notes)
  some_deleting some =
      let at = some_counted c.sqs (λ none. some (s.has.deletions.counted ∙ none)) in
      let it = flagged_item c.sqs c.pending_deletions slots s.content.sq_life s.content.deletion s.items.deletes s.has.deletions at.queue at.closing in
      record {
        region = it.region;
        index = it.item.index;
        deletes = s.holds.deletion.place_is it.region ∙ ap (option_map (λ (d : PendingDelete). d.place.index))
            (deletion_item c.sqs c.pending_deletions slots s.content.sq_life s.content.deletion s.items.deletes s.has.deletions it.region it.item it.is);
      }
