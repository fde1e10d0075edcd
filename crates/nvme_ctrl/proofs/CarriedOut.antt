-- An admin command was carried out: the controller stands at the notes of its pick, of what it makes, and of its answer.
use Rattle.nvme_ctrl_log.specs.Account.{PostsOwn, IsLawfulEvent, IsLawful, IsAccount, IsCarriedOut, FetchesSubmitted, PostsOnFreeSlot, PostsWhatIsThrough, PicksOnObservation}
use Rattle.std.proofs.Common.{◌≡◌, ℕ, suc, ◌<◌, ◌==◌, ◌&&◌, Bool, true, false, if◌then◌else◌, List, [], ◌∷◌, ◌++◌, length, map, drop, Option, Some, None, refl, sym, ap, ◌∙◌, subst, arith, inl, inr}
use Rattle.std.proofs.lemmas.Option.{none-some}
use Rattle.std.specs.Prelude.{slice_get, nat_lt, All, is_some, option_map}
use Rattle.std.specs.List.{AllPairs}
use Rattle.std.proofs.lemmas.Bool.{cases_eq, ne_eqb, and_parts, false_from_ne_true, eqb-true}
use Rattle.std.proofs.lemmas.List.Elements.{All-nil, All-head, All-tail, All-same, All-weaker}
use Rattle.nvme_arbiter.specs.Board.{BoardView}
use Rattle.nvme_arbiter.specs.Lawful.{lawful_pick}
use Rattle.nvme_arbiter.specs.Queues.{seen_of}
use Rattle.nvme_arbiter.specs.declared.pick.Seen.{Seen}
use Rattle.nvme_admin.specs.Changes.{TellsChange}
use Rattle.nvme_admin.proofs.Changed.{TellsChange-entry}
use Rattle.nvme_admin.specs.QueueTable.{QueueTable}
use Rattle.nvme_admin.specs.declared.effect.Effect.{Effect}
use Rattle.nvme_admin.specs.declared.verdict.Verdict.{Verdict}
use Rattle.nvme_admin.specs.declared.verdict.Verdict.TheVariants as verdict
use Rattle.nvme_log.specs.Histories.{arbitration_of}
use Rattle.nvme_log.specs.Queues.{Queue, open_sq}
use Rattle.nvme_entry.specs.Status.{StatusCode}
use Rattle.nvme_entry.specs.declared.submission.Sqe.{Sqe}
use Rattle.nvme_log.specs.declared.event.Event.{Event}
use Rattle.nvme_log.specs.declared.event.Event.TheVariants as event
use Rattle.nvme_log.specs.declared.place.Place.{Place}
use Rattle.nvme_log.specs.Rules.{FrontRules, Past}
use Rattle.nvme_log.specs.Places.{fetched, is_aborted, fate_of, is_waiting, is_picked, unaborted_below, picked, waiting, WasAborted, WasPicked, Waits}
use Rattle.nvme_log.specs.Answers.{Answer}
use Rattle.nvme_log.specs.Effects.{made_by, is_effect, target_of}
use Rattle.nvme_log.specs.Dispatches.{place_at}
use Rattle.nvme_slots.specs.Pool.{slot_at}
use Rattle.nvme_ctrl_log.specs.Notes.{Notes, Logged, Answered, EachNote, logged}
use Rattle.nvme_ctrl_log.specs.Tags.{answer_of, cookie_of, is_passed, flags_of}
use Rattle.nvme_ctrl_log.specs.Observation.{observed_of}
use Rattle.nvme_ctrl_log.specs.Steps.{with_logged, picked_notes, IsNextPick}
use Rattle.nvme_ctrl.specs.Steps.{IsAnswerOf, HasCarriedOut}
use Rattle.nvme_slots.specs.declared.slot.Slot.{Slot}
use Rattle.nvme_ctrl.specs.declared.state.Controller.{Controller}
use Rattle.nvme_ctrl_content.specs.Content.{Attachment, Candidate, Ready, Content, with_ready}
use Rattle.nvme_ctrl_content.specs.Standing.{Holds, HasOwnStatus, hand_of, answer_in, HasItsStatus}
use Rattle.nvme_ctrl_content.specs.Steps.{applied_to, told, oldest_named}
use Rattle.nvme_ctrl_log.specs.Next.{IsNext, EachNext}
use Rattle.nvme_ctrl.specs.kept.Kept.{Item, Items, IsWaitingIn, candidate_of, picked_of, untaken, IsDevices, DeleteItem, deletion_in}
use Rattle.nvme_ctrl_content.specs.Shown.{HoldsShown, HasRegionsMade}
use Rattle.nvme_ctrl_content.specs.Order.{HoldsOrder}
use Rattle.nvme_ctrl.specs.inside.Loose.{Keeps}
use Rattle.nvme_ctrl.specs.inside.Carrying.{IsApplied, HasBegun}
use Rattle.nvme_ctrl.specs.kept.State.{picked_in}
use Rattle.nvme_ctrl.proofs.Passed.{not_passed, hand_is_devices}
use Rattle.nvme_ctrl_content.proofs.AfterSteps.{IsChosen, after_admin, admin_past, deleting_from, aborting_in, aborting_from}
use Rattle.nvme_ctrl_content.proofs.DeletedQueues.{deletion_done, unheld_undeleting}
use Rattle.nvme_ctrl.proofs.PendingDeletions.{deletion_item}
use Rattle.nvme_ctrl_content.proofs.Standing.{holds-admin}
use Rattle.nvme_ctrl_content.proofs.AdminEvents.{next-admin}
use Rattle.nvme_ctrl_content.proofs.AdminPick.{deleted_region, target_region, made_request, found_before}
use Rattle.nvme_log.proofs.AdminPicks.{admin_is_whole}
use Rattle.nvme_ctrl_content.proofs.Observing.{seen_is_observed}
use Rattle.nvme_ctrl_content.proofs.Showing.{OpensApart, shown_verdict}
use Rattle.nvme_ctrl_log.proofs.EffectEvents.{AreEffects, made_are_effects, made_leave_region, effects_leave_fetched}
use Rattle.nvme_ctrl.proofs.LaterNotes.{logged-with, answer_of-logged, cookie_of-logged, keeps-picked, IsOther, keeps-answered, is_passed-logged}
use Rattle.nvme_ctrl_content.proofs.OwnStatus.{IsAnswerable, ready_is_answerable, answerable_is_done, candidates_wait, oldest_waits, waiting_is_unaborted, All-unmap}
use Rattle.nvme_ctrl.proofs.SlotItems.{All-parts}
use Rattle.nvme_ctrl_content.proofs.Windows.{window-below, window-ascending}
use Rattle.nvme_ctrl_content.proofs.Ordering.{IsToldAtOnce, order_told}
use Rattle.nvme_ctrl_log.specs.Ready.{PostsInOrder}

-- ---- lawful events
own_of-effect : (rules : FrontRules) (notes : Notes) (e : Event) → is_effect e ≡ true → PostsOwn rules notes e
own_of-effect rules notes (event.Post c r i cqe) h = cc h
own_of-effect rules notes e h = tt

submitted-effect : (rules : FrontRules) (notes : Notes) (e : Event) → is_effect e ≡ true → FetchesSubmitted rules notes e
submitted-effect rules notes (event.Fetch r i entry) h = cc h
submitted-effect rules notes e h = tt

free-effect : (rules : FrontRules) (notes : Notes) (e : Event) → is_effect e ≡ true → PostsOnFreeSlot rules notes e
free-effect rules notes (event.Post c r i cqe) h = cc h
free-effect rules notes e h = tt

through-effect : (notes : Notes) (e : Event) → is_effect e ≡ true → PostsWhatIsThrough notes e
through-effect notes (event.Post c r i cqe) h = cc h
through-effect notes e h = tt

order-effect : (notes : Notes) (e : Event) → is_effect e ≡ true → PostsInOrder notes e
order-effect notes (event.Post c r i cqe) h = cc h
order-effect notes e h = tt

observed-effect : (notes : Notes) (e : Event) → is_effect e ≡ true → PicksOnObservation notes e
observed-effect notes (event.Pick seen pick) h = cc h
observed-effect notes e h = tt

-- an effect that is next is lawful
lawful-effect : (rules : FrontRules) (notes : Notes) (e : Event) → is_effect e ≡ true → IsNext rules (logged notes) e → IsLawfulEvent rules notes e
lawful-effect rules notes e is n = record {
  index_counts = n.index_counts;
  served_while_open = n.served_while_open;
  observed = observed-effect notes e is;
  effects_at_once = n.effects_at_once;
  deletes = n.deletes;
  posts_own = own_of-effect rules notes e is;
  fetches_submitted = submitted-effect rules notes e is;
  posts_on_free_slot = free-effect rules notes e is;
  posts_what_is_through = through-effect notes e is;
  posts_in_order = order-effect notes e is;
}

-- so is each of some
each-effect : (rules : FrontRules) (es : List Event) (notes : Notes) → AreEffects es → EachNext (IsNext rules) es (logged notes) → EachNote (IsLawful rules) notes
    → EachNote (IsLawful rules) (with_logged es notes)
each-effect rules [] notes are next each = each
each-effect rules (e ∷ rest) notes are next each =
    each-effect rules rest (Logged e ∷ notes) are.1 next.1 (lawful-effect rules notes e are.0 next.0, each)

-- ---- lists
pub last_of : {X : Type 0} (P : X → Type 0) (xs : List X) (x : X) → All P (xs ++ x ∷ []) → P x
last_of P [] x h = All-head P x [] h
last_of P (y ∷ ys) x h = last_of P ys x (All-tail P y (ys ++ x ∷ []) h)

-- the first of a list is so to each of the others
first_pairs : {X : Type 0} (R : X → X → Type 0) (x : X) (xs : List X) → AllPairs R (x ∷ xs) → All (R x) xs
first_pairs R x xs h k d lt = h 0 (suc k) d (omega arith) (omega (arith, lt))

-- where none is picked, none is of a queue
pub none_picked_in : (c : Controller) (r : ℕ) → c.picked ≡ 0 → picked_in c r ≡ 0
none_picked_in c r none = by (r == c.picked_qid) where
  by : (b : Bool) → (if b then c.picked else 0) ≡ 0
  by true = none
  by false = refl

-- nor of the queue of a region
pub none_picked_of : (c : Controller) (id : Option ℕ) → c.picked ≡ 0 → picked_of c id ≡ 0
none_picked_of c None none = refl
none_picked_of c (Some q) none = none_picked_in c q none

-- a place that is neither aborted nor waiting was picked
pub was_picked : (past : Past) (r i : ℕ) → is_aborted past r i ≡ false → is_waiting (fate_of past r i) ≡ false → is_picked (fate_of past r i) ≡ true
was_picked past r i clear done = by (is_aborted past r i) (nat_lt (unaborted_below past r i) (picked past r)) clear done where
  by : (a b : Bool) → a ≡ false → is_waiting (if a then WasAborted else (if b then WasPicked else Waits)) ≡ false
      → is_picked (if a then WasAborted else (if b then WasPicked else Waits)) ≡ true
  by true b clear done = absurd (cc clear)
  by false true clear done = refl
  by false false clear done = absurd (cc done)

-- ---- the pick and what the command makes
module _ (rules : FrontRules) (late : Bool) (notes : Notes) (a : Controller) (slots : List Slot) (tag : ℕ) (did : Effect) (v : Verdict)
    (h : IsApplied rules late notes a slots tag did v) where
  abbrev pub made : List Event
  made = made_by (logged notes) v

  -- the notes with what it makes
  abbrev pub made_notes : Notes
  made_notes = with_logged made (picked_notes notes h.pick)

  abbrev pub applied : Content
  applied = applied_to h.before h.picked h.table

  -- the board that was kept shows what arbitration sees
  saw : observed_of notes ≡ seen_of h.before.board.queues
  saw = sym (seen_is_observed notes h.before h.holds.regions h.holds.queues h.shown)

  -- so its pick was the next
  is_next : IsNextPick rules notes (Some h.pick)
  is_next =
      subst (λ (xs : List Seen). Some h.pick ≡ lawful_pick rules.mechanism rules.start.settings (arbitration_of (logged notes)) xs) (sym saw)
      (admin_is_whole rules.mechanism rules.start.settings (arbitration_of (logged notes)) (seen_of h.before.board.queues) h.pick h.holds.arbitration.stands.observed h.can_pick.lawful h.of_admin)

  pub are_effects : AreEffects made
  are_effects = made_are_effects (logged notes) v

  pub logged_is : logged made_notes ≡ admin_past (logged notes) (event.Pick (observed_of notes) h.pick) v
  logged_is = logged-with made (picked_notes notes h.pick)

  pub unanswered : answer_of made_notes 0 h.candidate.index ≡ None
  unanswered = answer_of-logged made (picked_notes notes h.pick) 0 h.candidate.index ∙ h.unanswered

  -- so has its slot what the caller keeps with it
  pub cookie_kept : cookie_of made_notes 0 h.candidate.index ≡ Some (slot_at slots tag).cookie
  cookie_kept = cookie_of-logged made (picked_notes notes h.pick) 0 h.candidate.index ∙ h.cookie

  -- it waited
  waits_before : is_waiting (fate_of (logged notes) 0 h.candidate.index) ≡ true
  waits_before =
      All-head (λ (c : Candidate). is_waiting (fate_of (logged notes) 0 c.index) ≡ true) h.candidate h.rest
      (All-same (λ (c : Candidate). is_waiting (fate_of (logged notes) 0 c.index) ≡ true) (h.candidate ∷ h.rest) (h.before.sq 0).window (sym h.can_apply.oldest)
      (candidates_wait (logged notes) 0 (h.before.sq 0) (h.holds.regions 0)))

  -- it wasn't passed on
  not_passed_before : is_passed notes h.candidate.index ≡ false
  not_passed_before = by (is_passed notes h.candidate.index) refl where
    by : (b : Bool) → is_passed notes h.candidate.index ≡ b → b ≡ false
    by true e =
        let waits = waits_before in
        let done = h.keeps.tags.passed.served h.candidate.index e in
        absurd (cc (waits, done))
    by false e = refl

  pub not_passed_on : is_passed made_notes h.candidate.index ≡ false
  not_passed_on = is_passed-logged made (picked_notes notes h.pick) h.candidate.index ∙ not_passed_before

  -- the controller keeps the same at them
  pub keeps_made : Keeps rules made_notes a slots applied h.items
  keeps_made = keeps-picked rules made notes (observed_of notes) h.pick a slots applied h.items are_effects h.of_admin h.keeps

  -- the device doesn't mark its completion
  pub unflagged : flags_of made_notes 0 h.candidate.index ≡ None
  unflagged = keeps_made.tags.flagged.none 0 h.candidate.index unanswered

  -- what the command leaves holds there
  pub holds_made : (c : ℕ) (board : BoardView) → IsChosen rules (logged notes) h.before c h.picked board v
      → Holds rules late (logged made_notes) (after_admin (logged notes) applied h.candidate c board v)
  holds_made c board chosen =
      subst (λ (p : Past). Holds rules late p (after_admin (logged notes) applied h.candidate c board v)) (sym logged_is)
      (subst (λ (w : Verdict). Holds rules late (admin_past (logged notes) (event.Pick (observed_of notes) h.pick) w) (after_admin (logged notes) applied h.candidate c board w)) (sym h.verdict_is)
      (holds-admin rules late (logged notes) h.before (observed_of notes) h.pick h.picked h.candidate h.rest h.table c board h.holds h.can_pick saw h.of_admin h.one h.can_apply
      (subst (IsChosen rules (logged notes) h.before c h.picked board) h.verdict_is chosen)))

  -- queues are shown as it leaves them
  pub shown_made : (c : ℕ) (board : BoardView) → HoldsShown made_notes (after_admin (logged notes) applied h.candidate c board v)
  shown_made c board =
      shown_verdict (logged notes) (picked_notes notes h.pick) applied h.candidate c board (record { held = h.shown.held; classed = h.shown.classed }) v
      (apart v (subst (TellsChange rules.start h.holds.tabled.history h.candidate.entry) (sym h.verdict_is) (TellsChange-entry rules.start h.holds.tabled.history h.candidate.entry)))
    where
      opened_apart : (region q : ℕ) (other : Queue) → (h.before.sq region).queue ≡ None → open_sq (logged notes) q ≡ Some other → other.region ≡ region → ⊥
      opened_apart region q other none is same =
          let attached = (h.holds.queues.attached q other is).attached in
          let here : (h.before.sq region).queue ≡ Some (record { qid = q; cq_region = (h.holds.queues.attached q other is).cq_region }) =
          subst (λ (r : ℕ). (h.before.sq r).queue ≡ Some (record { qid = q; cq_region = (h.holds.queues.attached q other is).cq_region })) same attached in
          absurd (cc (none, here))

      apart : (w : Verdict) → TellsChange rules.start h.holds.tabled.history h.candidate.entry w
          → OpensApart (logged notes) (picked_notes notes h.pick) applied h.candidate c board (record { held = h.shown.held; classed = h.shown.classed }) w
      apart (verdict.OpenSq qid region cqid class) tells = λ q other is same.
          opened_apart region q other (h.holds.queues.unused region (ap (λ (t : QueueTable). t.sq_region_used region) h.holds.tabled.table_is ∙ tells.due.unused)) is same
      apart w tells = tt

  -- its completion is ready after those that were, and after that of a command that it aborted
  order_made : (c : ℕ) (board : BoardView) (answer : Answer) → IsChosen rules (logged notes) h.before c h.picked board v → IsAnswerOf v (Some answer)
      → HoldsOrder (Answered 0 h.candidate.index answer ∷ made_notes) (after_admin (logged notes) applied h.candidate c board v)
  order_made c board answer chosen answered =
      order_told (logged notes) (picked_notes notes h.pick) applied h.candidate c board h.ordered v answer (at_once v answered chosen)
      ((holds_made c board chosen).ready.admin_region)
    where
      at_once : (w : Verdict) → IsAnswerOf w (Some answer)
          → IsChosen rules (logged notes) h.before c h.picked board w → IsToldAtOnce (logged notes) (picked_notes notes h.pick) applied h.candidate c board h.ordered w
      at_once (verdict.BeginDelete qid) never chosen = absurd (none-some answer (sym never))
      at_once (verdict.Abort sqid cid) told chosen = λ queue target. record {
        oldest = made_request rules late (logged notes) h.before (observed_of notes) h.pick h.picked h.holds h.can_pick.is_open h.of_admin h.table sqid cid queue target;
        goes = λ found finds.
            let before = found_before rules late (logged notes) h.before (observed_of notes) h.pick h.picked h.holds h.can_pick.is_open h.of_admin h.table sqid cid queue found target finds in
            h.holds.queues.cq_region_is queue.region ∙ ap (option_map (λ (a : Attachment). a.cq_region)) (chosen queue found target before).attached;
      }
      at_once w told chosen = tt

  -- and the regions are those of the queues that were made
  regions-made : (c : ℕ) (board : BoardView) → HasRegionsMade (after_admin (logged notes) applied h.candidate c board v)
  regions-made c board = by v where
    same : (k : Content) → k.table ≡ h.table → k.nsq ≡ h.before.nsq → k.ncq ≡ h.before.ncq → HasRegionsMade k
    same k table nsq ncq = record {
      sqs = λ some. nsq ∙ h.made.sqs (ap (λ (t : QueueTable). is_some t.placing) (sym table) ∙ some) ∙ ap (λ (t : QueueTable). suc t.sqs_made) (sym table);
      cqs = λ some. ncq ∙ h.made.cqs (ap (λ (t : QueueTable). is_some t.placing) (sym table) ∙ some) ∙ ap (λ (t : QueueTable). suc t.cqs_made) (sym table);
    }

    deletes : (qid : ℕ) (o : Option Queue) → HasRegionsMade (deleting_from applied qid c h.candidate o)
    deletes qid None = same _ refl refl refl
    deletes qid (Some queue) = same _ refl refl refl

    found : (sqid region cid : ℕ) (o : Option Candidate) → HasRegionsMade (aborting_in applied h.candidate sqid region c cid board o)
    found sqid region cid None = same _ refl refl refl
    found sqid region cid (Some x) = same _ refl refl refl

    aborts : (sqid cid : ℕ) (o : Option Queue) → HasRegionsMade (aborting_from applied h.candidate sqid c cid board o)
    aborts sqid cid None = same _ refl refl refl
    aborts sqid cid (Some queue) = found sqid queue.region cid (oldest_named cid (applied.sq queue.region).window)

    by : (w : Verdict) → HasRegionsMade (after_admin (logged notes) applied h.candidate c board w)
    by (verdict.Done status dw0) = same _ refl refl refl
    by (verdict.OpenSq qid region cqid class) = same _ refl refl refl
    by (verdict.OpenCq qid region) = same _ refl refl refl
    by (verdict.BeginDelete qid) = deletes qid (open_sq (logged notes) qid)
    by (verdict.CloseCq qid) = same _ refl refl refl
    by (verdict.Abort sqid cid) = aborts sqid cid (target_of (logged notes) sqid)
    by (verdict.SetArbitration settings) = same _ refl refl refl

  -- each of the notes is lawful
  pub each_made : late ≡ false → EachNote (IsLawful rules) made_notes
  each_made on_time =
      let next : EachNext (IsNext rules) (event.Pick (observed_of notes) h.pick ∷ made) (logged notes) =
      subst (λ (w : Verdict). EachNext (IsNext rules) (event.Pick (observed_of notes) h.pick ∷ made_by (logged notes) w) (logged notes)) (sym h.verdict_is)
      (next-admin rules late (logged notes) h.before (observed_of notes) h.pick h.picked h.candidate h.rest h.table h.holds h.can_pick saw h.of_admin h.one h.can_apply on_time) in
      let n = next.0 in
      each-effect rules made (picked_notes notes h.pick) are_effects next.1 (
        record {
          index_counts = n.index_counts;
          served_while_open = n.served_while_open;
          observed = refl;
          effects_at_once = n.effects_at_once;
          deletes = n.deletes;
          posts_own = tt;
          fetches_submitted = tt;
          posts_on_free_slot = tt;
          posts_what_is_through = tt;
          posts_in_order = tt;
        },
        (h.account on_time).each,
      )

  -- the candidate is the oldest of the admin queue
  pub first_waits : slice_get (waiting (logged notes) 0) 0 ≡ Some h.candidate.index
  first_waits = oldest_waits (logged notes) 0 (h.before.sq 0) h.candidate h.rest (h.holds.regions 0) h.can_apply.oldest

  -- which isn't aborted
  pub unaborted : is_aborted (logged made_notes) 0 h.candidate.index ≡ false
  unaborted =
      let waits = waits_before in
      ap (λ (p : Past). is_aborted p 0 h.candidate.index) logged_is
      ∙ made_leave_region (logged notes) (event.Pick (observed_of notes) h.pick ∷ logged notes) v 0 h.candidate.index
      (λ qid queue begins is same. deleted_region rules late (logged notes) h.before (observed_of notes) h.pick h.picked h.holds h.can_pick.is_open h.of_admin h.candidate qid queue
      (sym h.verdict_is ∙ begins) is (sym same))
      (λ sqid queue is same. target_region rules late (logged notes) h.before (observed_of notes) h.pick h.picked h.holds h.can_pick.is_open h.of_admin sqid queue is (sym same))
      ∙ waiting_is_unaborted (logged notes) 0 h.candidate.index waits

  -- ---- its answer
  -- the candidate is one of those that were fetched
  there : h.candidate.index < length (fetched (logged made_notes) 0)
  there =
      let below : h.candidate.index < length (fetched (logged notes) 0) =
      All-head (λ (c : Candidate). c.index < length (fetched (logged notes) 0)) h.candidate h.rest
      (All-same (λ (c : Candidate). c.index < length (fetched (logged notes) 0)) (h.candidate ∷ h.rest) (h.before.sq 0).window (sym h.can_apply.oldest)
      (window-below (logged notes) 0 (h.before.sq 0) (h.holds.regions 0))) in
      subst (λ (xs : List Sqe). h.candidate.index < length xs)
      (sym (ap (λ (p : Past). fetched p 0) logged_is ∙ effects_leave_fetched 0 made (event.Pick (observed_of notes) h.pick ∷ logged notes) are_effects)) below

  -- no other command has its place
  others : (r : ℕ) → All (λ (it : Item). IsOther h.candidate.index it.place) (h.items.windows r)
  others r = elim (cases_eq r 0) [
    | inl same ↦ subst (λ (x : ℕ). All (λ (it : Item). IsOther h.candidate.index it.place) (h.items.windows x)) (sym same)
        (All-weaker (λ (it : Item). h.candidate.index < it.place.index) (λ (it : Item). IsOther h.candidate.index it.place) (λ it above. index_apart it.place above) (h.items.windows 0)
        (All-unmap (λ (c : Candidate). h.candidate.index < c.index) candidate_of (h.items.windows 0)
        (All-same (λ (c : Candidate). h.candidate.index < c.index) (map candidate_of (h.items.windows 0)) h.rest rest_is later)))
    | inr other ↦ other_window r other (h.before.sq_id r) refl
  ] where
    index_apart : (p : Place) → h.candidate.index < p.index → IsOther h.candidate.index p
    index_apart p above = false_from_ne_true (0 == p.region && h.candidate.index == p.index) (λ e.
        let same : h.candidate.index ≡ p.index = eqb-true h.candidate.index p.index (and_parts (0 == p.region) (h.candidate.index == p.index) e).1 in
        absurd (omega (arith, same, above)))

    region_apart : (p : Place) → (p.region ≡ 0 → ⊥) → IsOther h.candidate.index p
    region_apart p not = rw (ne_eqb 0 p.region (λ e. not (sym e))) refl

    -- those of the queue of another region, where there is one
    other_window : (r : ℕ) → (r ≡ 0 → ⊥) → (id : Option ℕ) → h.before.sq_id r ≡ id → All (λ (it : Item). IsOther h.candidate.index it.place) (h.items.windows r)
    other_window r other None none = subst (All (λ (it : Item). IsOther h.candidate.index it.place)) (sym (h.keeps.has.windows.none r none)) (All-nil (λ (it : Item). IsOther h.candidate.index it.place))
    other_window r other (Some q) id =
        All-weaker (IsWaitingIn slots q r) (λ (it : Item). IsOther h.candidate.index it.place) (λ it w. region_apart it.place (λ e. other (sym w.place ∙ e))) (h.items.windows r)
        (h.keeps.has.windows.items q r (h.keeps.numbers.sqs.ids.lives_are r q id))

    later : All (λ (c : Candidate). h.candidate.index < c.index) h.rest
    later = first_pairs (λ (x y : Candidate). x.index < y.index) h.candidate h.rest
        (subst (λ (cs : List Candidate). AllPairs (λ (x y : Candidate). x.index < y.index) cs) h.can_apply.oldest (window-ascending (logged notes) 0 (h.before.sq 0) (h.holds.regions 0)))

    rest_is : map candidate_of (h.items.windows 0) ≡ h.rest
    rest_is =
        ap (λ (n : ℕ). map candidate_of (drop n (h.items.windows 0))) (sym (none_picked_of a (h.before.sq_id 0) h.none_picked))
        ∙ sym (h.keeps.has.windows.are 0) ∙ ap (λ (cs : List Candidate). drop 1 cs) h.can_apply.oldest

  outs_other : All (λ (it : Item). IsOther h.candidate.index it.place) h.items.outs
  outs_other =
      (All-parts (λ (it : Item). IsOther h.candidate.index it.place) h.items.outs (untaken a applied h.items)
      (All-weaker (λ (it : Item). IsDevices notes it.place) (λ (it : Item). IsOther h.candidate.index it.place)
      (λ it is. not_passed notes it.place h.candidate.index is not_passed_before) (h.items.outs ++ untaken a applied h.items)
      (hand_is_devices notes a slots applied h.items h.keeps.tags))).0

  -- the Delete of a deletion that is pending was picked before
  deletes_other : (r : ℕ) (it : DeleteItem) → h.items.deletes r ≡ Some it → IsOther h.candidate.index (place_at 0 it.index)
  deletes_other r it at = false_from_ne_true (0 == 0 && h.candidate.index == it.index) (λ e.
      let d = deletion_item a.sqs a.pending_deletions slots h.before.sq_life h.before.deletion h.items.deletes h.keeps.has.deletions r it at in
      let ended : is_waiting (fate_of (logged notes) 0 it.index) ≡ false = deletion_done rules late (logged notes) h.before h.holds r (deletion_in slots r it) d in
      let same : h.candidate.index ≡ it.index = eqb-true h.candidate.index it.index e in
      let here : is_waiting (fate_of (logged notes) 0 h.candidate.index) ≡ false = subst (λ (z : ℕ). is_waiting (fate_of (logged notes) 0 z) ≡ false) (sym same) ended in
      let waited = waits_before in
      absurd (cc (here, waited)))

  -- what is kept at the notes before is kept when it is answered
  pub keeps_told_of : (m : Controller) (k : Content) (answer : Answer) → Keeps rules notes m slots k h.items → Keeps rules (Answered 0 h.candidate.index answer ∷ made_notes) m slots k h.items
  keeps_told_of m k answer kept =
      keeps-answered rules made_notes h.candidate.index answer m slots k h.items unanswered there others outs_other deletes_other
      (keeps-picked rules made notes (observed_of notes) h.pick m slots k h.items are_effects h.of_admin kept)

  -- so the controller keeps the same
  pub keeps_told : (answer : Answer) → Keeps rules (Answered 0 h.candidate.index answer ∷ made_notes) a slots applied h.items
  keeps_told answer = keeps_told_of a applied answer h.keeps

  -- ---- it was answered
  module _ (before : Content) (status : StatusCode) (dw0 : ℕ) (c : ℕ) (board : BoardView) (chosen : IsChosen rules (logged notes) h.before c h.picked board v)
      (is : after_admin (logged notes) applied h.candidate c board v ≡ with_ready before 0 (told h.candidate status dw0)) where
    abbrev t : Ready
    t = told h.candidate status dw0

    abbrev k : Content
    k = with_ready before 0 t

    holds_told : Holds rules late (logged made_notes) k
    holds_told = subst (Holds rules late (logged made_notes)) is (holds_made c board chosen)

    own : late ≡ false → HasItsStatus rules (logged made_notes) t
    own on_time = last_of (HasOwnStatus rules (logged made_notes)) (before.cq 0).ready t ((holds_told.own on_time).own_statuses 0) refl

    answerable : IsAnswerable (logged made_notes) (hand_of k) 0 h.candidate.index
    answerable =
        last_of (λ (x : Ready). IsAnswerable (logged made_notes) (hand_of k) x.place.region x.place.index) (before.cq 0).ready t
        (ready_is_answerable (logged made_notes) k (hand_of k) holds_told.ready 0)

    done : is_waiting (fate_of (logged made_notes) 0 h.candidate.index) ≡ false
    done = answerable_is_done (logged made_notes) (hand_of k) 0 h.candidate.index answerable

    carried : late ≡ false → IsCarriedOut rules made_notes h.candidate.index (answer_in t)
    carried on_time =
        let o = own on_time in
        record {
          entry = o.entry;
          is_there = o.is_there;
          picked = was_picked (logged made_notes) 0 h.candidate.index unaborted done;
          whole = (holds_told.own on_time).effects_whole;
          finished = unheld_undeleting rules late (logged made_notes) k holds_told 0 h.candidate.index answerable.not_held;
          status = o.status;
          dw0 = o.dw0;
        }

    account_told : late ≡ false → IsAccount rules (Answered 0 h.candidate.index (answer_in t) ∷ made_notes)
    account_told on_time = record {
      each = (record { first = unanswered; executed = rw not_passed_on (carried on_time) }, each_made on_time);
      lawful = holds_told.arbitration.lawful;
      effects_whole = (holds_told.own on_time).effects_whole;
    }

    -- the controller stands there
    pub carried_told : IsAnswerOf v (Some (answer_in t)) → (b : Controller) (pool : List Slot) (g : Items) → Keeps rules (Answered 0 h.candidate.index (answer_in t) ∷ made_notes) b pool k g
        → HasCarriedOut rules late notes v b pool
    carried_told answered b pool g s = record {
      pick = h.pick;
      of_admin = h.of_admin;
      next = is_next;
      index = h.candidate.index;
      oldest = first_waits;
      answer = Some (answer_in t);
      answered = answered;
      stands = record {
        content = k;
        items = g;
        holds = holds_told;
        numbers = s.numbers;
        has = s.has;
        doorbells = s.doorbells;
        tags = s.tags;
        shown = (let shown : HoldsShown made_notes k = subst (HoldsShown made_notes) is (shown_made c board) in record { held = shown.held; classed = shown.classed });
        ordered = subst (HoldsOrder (Answered 0 h.candidate.index (answer_in t) ∷ made_notes)) is (order_made c board (answer_in t) chosen answered);
        regions = subst HasRegionsMade is (regions-made c board);
        account = account_told;
      };
    }

  -- ---- it began a deletion, and is answered later
  pub carried_later : IsAnswerOf v None → (c : ℕ) (board : BoardView) → IsChosen rules (logged notes) h.before c h.picked board v → (k : Content)
      → after_admin (logged notes) applied h.candidate c board v ≡ k → HoldsOrder made_notes k → (b : Controller) (pool : List Slot) → HasBegun rules made_notes k b pool
      → HasCarriedOut rules late notes v b pool
  carried_later answered c board chosen k is ordered b pool s =
      let holds : Holds rules late (logged made_notes) k = subst (Holds rules late (logged made_notes)) is (holds_made c board chosen) in
      record {
        pick = h.pick;
        of_admin = h.of_admin;
        next = is_next;
        index = h.candidate.index;
        oldest = first_waits;
        answer = None;
        answered = answered;
        stands = record {
          content = k;
          items = s.items;
          holds = holds;
          numbers = s.numbers;
          has = s.has;
          doorbells = s.doorbells;
          tags = s.tags;
          shown = subst (HoldsShown made_notes) is (shown_made c board);
          ordered = ordered;
          regions = subst HasRegionsMade is (regions-made c board);
          account = λ on_time. record { each = each_made on_time; lawful = holds.arbitration.lawful; effects_whole = (holds.own on_time).effects_whole };
        };
      }
