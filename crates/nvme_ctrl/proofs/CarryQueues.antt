-- The beginning of a deletion, carried out.
use Rattle.nvme_ctrl_content.proofs.OpenQueues.{io_region}
use Rattle.nvme_ctrl_content.proofs.DeletedQueues.{open_undeleted}
use Rattle.std.proofs.lemmas.Bool.{ne_eqb}
use Rattle.std.proofs.Common.{◌≡◌, ℕ, ◌+◌, ◌<◌, ◌^◌, Bool, true, List, ◌∷◌, length, map, Option, Some, None, refl, sym, ap, ◌∙◌, subst, arith, false}
use Rattle.std.specs.Prelude.{IsSome, All, option_map}
use Rattle.std.proofs.lemmas.Option.{same_Some}
use Rattle.std.proofs.lemmas.List.Elements.{All-same}
use Rattle.nvme_arbiter.specs.Board.{BoardView}
use Rattle.nvme_arbiter.specs.Layout.{board_of}
use Rattle.nvme_arbiter.specs.Queues.{queue_at}
use Rattle.nvme_admin.specs.declared.verdict.Verdict.{Verdict}
use Rattle.nvme_admin.specs.declared.verdict.Verdict.TheVariants as verdict
use Rattle.nvme_admin.specs.declared.effect.Effect.{Effect}
use Rattle.nvme_log.specs.declared.event.Event.{Event}
use Rattle.nvme_log.specs.declared.event.Event.TheVariants as event
use Rattle.nvme_log.specs.Rules.{FrontRules, Past}
use Rattle.nvme_log.specs.Queues.{Queue, open_sq}
use Rattle.nvme_log.specs.Places.{is_aborted, waiting}
use Rattle.nvme_log.specs.Effects.{closing_of}
use Rattle.nvme_log.specs.Dispatches.{place_at}
use Rattle.nvme_ctrl_log.specs.Notes.{Notes, logged}
use Rattle.nvme_ctrl_log.specs.Observation.{observed_of}
use Rattle.nvme_ctrl_log.specs.Tags.{answer_of, is_passed}
use Rattle.nvme_ctrl.specs.Steps.{HasCarriedOut}
use Rattle.nvme_ctrl_log.specs.Steps.{with_logged, picked_notes}
use Rattle.nvme_slots.specs.declared.slot.Slot.{Slot}
use Rattle.nvme_ctrl.specs.declared.state.Controller.{Controller}
use Rattle.nvme_ctrl_content.specs.Content.{Candidate, SqContent, Attachment, Content}
use Rattle.nvme_ctrl.specs.kept.Kept.{Items, IsCookie}
use Rattle.nvme_ctrl.specs.inside.Loose.{IsLoose, Keeps}
use Rattle.nvme_ctrl.specs.inside.Carrying.{IsApplied, HasBegun}
use Rattle.nvme_ctrl_content.specs.Carrying.{IsDroppable, deleting}
use Rattle.nvme_slots.specs.Pool.{slot_at}
use Rattle.nvme_ctrl_log.proofs.LaterEvents.{with_events}
use Rattle.nvme_ctrl_content.proofs.AfterSteps.{deleting_from}
use Rattle.nvme_ctrl.proofs.AppliedQueues.{named_region, named_attached, named_on_board, begins_queue, begins_open, begins_io}
use Rattle.nvme_ctrl.proofs.CarriedOut.{made_notes, applied, logged_is, unanswered, cookie_kept, not_passed_on, keeps_made, carried_later}
use Rattle.nvme_ctrl.proofs.PoolBounds.{unposted_held}
use Rattle.nvme_ctrl_content.proofs.OwnStatus.{All-unmap, aborts_all}
use Rattle.nvme_ctrl_content.proofs.Ordering.{order_begun}
use Rattle.nvme_ctrl_content.specs.Order.{HoldsOrder}

-- ---- the deletion of a submission queue begins
module _ (rules : FrontRules) (late : Bool) (notes : Notes) (a : Controller) (slots : List Slot) (tag qid : ℕ) (did : Effect)
    (h : IsApplied rules late notes a slots tag did (verdict.BeginDelete qid)) where
  abbrev v : Verdict
  v = verdict.BeginDelete qid

  abbrev region : ℕ
  region = (begins_queue rules late notes a slots tag qid did h).region

  abbrev k : Content
  k = applied rules late notes a slots tag did v h

  abbrev now : Notes
  now = made_notes rules late notes a slots tag did v h

  io : qid ≡ 0 → ⊥
  io = begins_io rules late notes a slots tag qid did h

  is_open : open_sq (logged notes) qid ≡ Some (begins_queue rules late notes a slots tag qid did h)
  is_open = begins_open rules late notes a slots tag qid did h

  -- its queue is on the board
  pub begins_on_board : IsSome (queue_at (board_of a.board).queues qid)
  begins_on_board =
      let here = named_on_board rules late notes a slots tag did v h qid (begins_queue rules late notes a slots tag qid did h) is_open io in
      rw (ap (λ (v : BoardView). queue_at v.queues qid) h.keeps.numbers.board_is ∙ here) refl

  left : k.sq region ≡ h.before.sq region
  left = named_region rules late notes a slots tag did v h qid (begins_queue rules late notes a slots tag qid did h) is_open io

  abbrev opened : ℕ
  opened = (named_attached rules late notes a slots tag did v h qid (begins_queue rules late notes a slots tag qid did h) is_open io).cq_region

  attached : (h.before.sq region).queue ≡ Some (record { qid = qid; cq_region = opened })
  attached = (named_attached rules late notes a slots tag did v h qid (begins_queue rules late notes a slots tag qid did h) is_open io).attached

  there : k.sq_life qid ≡ Some region
  there = h.holds.lives.sqs qid (begins_queue rules late notes a slots tag qid did h) is_open

  -- its candidates are aborted
  all_aborted : All (λ (x : Candidate). is_aborted (logged now) region x.index ≡ true) (k.sq region).window
  all_aborted =
      let closing : Past = event.Closing qid region ∷ event.Pick (observed_of notes) h.pick ∷ logged notes in
      let made : logged now ≡ with_events (map (λ (i : ℕ). event.Abort region i) (waiting (logged notes) region)) closing =
      logged_is rules late notes a slots tag did v h
      ∙ ap (λ (es : List Event). with_events es (event.Pick (observed_of notes) h.pick ∷ logged notes)) (ap (closing_of (logged notes) qid) is_open) in
      let are : map (λ (c : Candidate). c.index) (k.sq region).window ≡ waiting (logged notes) region =
      ap (λ (s : SqContent). map (λ (c : Candidate). c.index) s.window) left ∙ sym (h.holds.regions region).waiting_is in
      All-unmap (λ (i : ℕ). is_aborted (logged now) region i ≡ true) (λ (c : Candidate). c.index) (k.sq region).window
      (All-same (λ (i : ℕ). is_aborted (logged now) region i ≡ true) (map (λ (c : Candidate). c.index) (k.sq region).window) (waiting (logged notes) region) are
      (subst (λ (p : Past). All (λ (i : ℕ). is_aborted p region i ≡ true) (waiting (logged notes) region)) (sym made) (aborts_all region (waiting (logged notes) region) closing)))

  -- it isn't being deleted yet
  undeleted : h.before.deletion region ≡ None
  undeleted = open_undeleted rules late (logged notes) h.before h.holds qid (begins_queue rules late notes a slots tag qid did h) is_open

  droppable : IsDroppable now k qid region opened
  droppable = record { there = there; attached = ap (λ (s : SqContent). s.queue) left ∙ attached; are_aborted = all_aborted; io = ne_eqb region 0 (io_region rules late (logged notes) h.before h.holds region qid opened attached io); undeleted = undeleted }

  -- few are unposted
  few : (k.sq region).unposted + length (k.sq region).window < 2 ^ 16
  few =
      let held = unposted_held rules late (logged notes) h.before h.holds region (h.holds.queues.sq_there region (record { qid = qid; cq_region = opened }) attached) in
      let same = ap (λ (s : SqContent). s.unposted) left in
      let as_many = ap (λ (s : SqContent). length s.window) left in
      omega (arith, held, same, as_many, h.keeps.tags.free_count, h.keeps.has.few)

  -- their completions are ready, the oldest first
  ordered : HoldsOrder now (deleting k qid region opened h.candidate)
  ordered =
      subst (λ (o : Option Queue). HoldsOrder (with_logged (closing_of (logged notes) qid o) (picked_notes notes h.pick)) (deleting k qid region opened h.candidate)) (sym is_open)
      (order_begun (logged notes) (picked_notes notes h.pick) k h.candidate opened h.picked h.ordered qid (begins_queue rules late notes a slots tag qid did h)
      ((h.holds.regions region).waiting_is ∙ ap (λ (s : SqContent). map (λ (c : Candidate). c.index) s.window) (sym left))
      (h.holds.queues.cq_region_is region ∙ ap (option_map (λ (x : Attachment). x.cq_region)) attached))

  -- it began
  pub ended_begun : (b : Controller) (pool : List Slot)
      → ((rules : FrontRules) (notes : Notes) (k : Content) (g : Items) (region c : ℕ) (candidate : Candidate) → Keeps rules notes a slots k g → a.picked ≡ 0 → IsLoose slots g tag
      → (slot_at slots tag).entry ≡ candidate.entry → (slot_at slots tag).sqid ≡ 0 → answer_of notes 0 candidate.index ≡ None → IsCookie notes slots tag (place_at 0 candidate.index) → is_passed notes candidate.index ≡ false → IsDroppable notes k qid region c → (k.sq region).unposted + length (k.sq region).window < 2 ^ 16
      → HasBegun rules notes (deleting k qid region c candidate) b pool)
      → HasCarriedOut rules late notes v b pool
  ended_begun b pool begun =
      carried_later rules late notes a slots tag did v h refl opened h.picked
      (λ queue open_too.
      subst (λ (q : Queue). (h.before.sq q.region).queue ≡ Some (record { qid = qid; cq_region = opened }))
      (same_Some (begins_queue rules late notes a slots tag qid did h) queue (sym is_open ∙ open_too)) attached)
      (deleting k qid region opened h.candidate) (ap (deleting_from k qid opened h.candidate) is_open) ordered b pool
      (begun rules now k h.items region opened h.candidate (keeps_made rules late notes a slots tag did v h) h.none_picked h.loose h.entry h.queue (unanswered rules late notes a slots tag did v h) (cookie_kept rules late notes a slots tag did v h) (not_passed_on rules late notes a slots tag did v h) droppable few)
