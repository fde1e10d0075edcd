-- The steps of a controller keep its board at the arbitration history of the log, which is a lawful run.
use Rattle.std.proofs.Common.{◌≡◌, ℕ, ◌+◌, ◌<◌, ◌≤◌, ◌==◌, Bool, true, false, List, [], ◌∷◌, map, length, set, Option, Some, None, refl, sym, ap, subst, ◌∙◌, inl, inr, arith, take}
use Rattle.std.specs.Prelude.{option_map, slice_set, IfSome, if◌then◌else◌}
use Rattle.std.proofs.lemmas.Bool.{cases_eq, cases_lt}
use Rattle.std.proofs.lemmas.List.{get_or-set_same, get_or-set_other, set_past, length-set}
use Rattle.nvme_arbiter.specs.Limits.{highest_count, queue_limit}
use Rattle.nvme_arbiter.specs.Board.{BoardView, BoardStandsAt}
use Rattle.nvme_arbiter.specs.History.{History, Picked}
use Rattle.nvme_arbiter.specs.Lawful.{IsLimitedRun, IsLimitedPick}
use Rattle.nvme_arbiter.specs.Observation.{IsSeen, IsObservation}
use Rattle.nvme_arbiter.specs.Queues.{seen_of, queue_at, FitsUnder, shown}
use Rattle.nvme_arbiter.specs.Queues as board
use Rattle.nvme_arbiter.specs.declared.pick.OpenQueue.{OpenQueue}
use Rattle.nvme_arbiter.specs.declared.pick.Pick.{Pick}
use Rattle.nvme_arbiter.specs.declared.pick.Seen.{Seen}
use Rattle.nvme_arbiter.specs.declared.settings.Class.{Class}
use Rattle.nvme_arbiter.specs.declared.settings.Class.TheVariants.{Admin}
use Rattle.nvme_arbiter.proofs.MaskLemmas.{find_qid, observed_of}
use Rattle.nvme_arbiter.proofs.NextLemmas.{IfSome-find}
use Rattle.nvme_admin.specs.History.{TableHistory}
use Rattle.nvme_admin.specs.Changes.{TellsChange}
use Rattle.nvme_admin.specs.QueueTable.{QueueTable}
use Rattle.nvme_admin.specs.declared.verdict.Verdict.{Verdict}
use Rattle.nvme_admin.specs.declared.verdict.Verdict.TheVariants.{Done, BeginDelete, CloseCq}
use Rattle.nvme_admin.specs.declared.verdict.Verdict.TheVariants as verdict
use Rattle.nvme_admin.proofs.Changed.{TellsChange-entry}
use Rattle.nvme_ctrl_content.specs.Content.{Candidate, Content, SqContent}
use Rattle.nvme_log.specs.declared.event.Event.TheVariants.{Abort}
use Rattle.nvme_log.specs.declared.event.Event.TheVariants as event
use Rattle.nvme_log.specs.Rules.{FrontRules, Past}
use Rattle.nvme_log.specs.Queues.{Queue, admin_queue, open_sq, open_cq}
use Rattle.nvme_log.specs.Places.{waiting}
use Rattle.nvme_log.specs.Histories.{arbitration_of}
use Rattle.nvme_log.specs.Effects.{closed_cq_of, closing_of, abort_in, named, target_of}
use Rattle.nvme_ctrl_content.specs.Standing.{HoldsArbitration, Holds, counted_on, on_board}
use Rattle.nvme_ctrl_content.specs.Steps.{CanPick, applied_to, verdict_at, oldest_named, picked_sq}
use Rattle.nvme_ctrl_log.proofs.LaterEvents.{with_events}
use Rattle.nvme_ctrl_content.proofs.AfterSteps.{IsChosen, admin_past, after_admin, deleting_from, aborting_from, aborting_in}
use Rattle.nvme_ctrl_content.proofs.StepKeeps.{KeepsFetch, KeepsIo, KeepsAdmin, KeepsPost, KeepsClose, Arbitration}
use Rattle.nvme_ctrl_content.proofs.Regions.{target_left}

-- ---- boards
-- an open queue of a board that makes an observation was seen
fits_at : (queues : List (Option OpenQueue)) (q : ℕ) (o : Option OpenQueue) → queue_at queues q ≡ o → IsObservation (seen_of queues) → FitsUnder q o
fits_at queues q None e is = tt
fits_at queues q (Some queue) e is =
    subst (λ (s : Option Seen). IfSome s IsSeen) (find_qid queues q ∙ ap (option_map (board.seen_as q)) e) (IfSome-find IsSeen (λ (s : Seen). s.qid == q) (seen_of queues) is.each)

-- each queue of a board that makes an observation fits under its identifier
pub fits_of : (queues : List (Option OpenQueue)) (q : ℕ) → IsObservation (seen_of queues) → FitsUnder q (queue_at queues q)
fits_of queues q is = fits_at queues q (queue_at queues q) refl is

-- a queue that fits under its identifier leaves a board an observation
pub put_observed : (queues : List (Option OpenQueue)) (q : ℕ) (queue : Option OpenQueue) → IsObservation (seen_of queues) → (q < length queues → FitsUnder q queue)
    → IsObservation (seen_of (slice_set queues q queue))
put_observed queues q queue is fits = elim (cases_lt q (length queues)) [
  | inl l ↦ observed_of (set queues q queue) (λ i. elim (cases_eq i q) [
    | inl e ↦ subst (λ (n : ℕ). FitsUnder n (queue_at (set queues q queue) n)) (sym e) (subst (FitsUnder q) (sym (get_or-set_same queues q queue None l)) (fits l))
    | inr n ↦ subst (FitsUnder i) (sym (get_or-set_other queues q i queue None n)) (fits_of queues i is)
  ])
  | inr g ↦ subst (λ (xs : List (Option OpenQueue)). IsObservation (seen_of xs)) (sym (set_past queues q queue g)) is
]

-- a count that is small is so of a queue that is held or not
pub few_on : (b : Bool) (n m : ℕ) → n ≤ m → (if b then 0 else n) ≤ m
few_on true n m few = omega arith
few_on false n m few = few

-- ---- a fetch
-- an open queue with a candidate more
pub arbitration-fetch : KeepsFetch Arbitration
arbitration-fetch rules late past k q queue entry s can =
    let here : queue_at k.board.queues q ≡ Some (on_board k queue) = s.queues.board q ∙ ap (option_map (on_board k)) can.is_open in
    let was : FitsUnder q (Some (on_board k queue)) = subst (FitsUnder q) here (fits_of k.board.queues q s.arbitration.stands.observed) in
    let room = can.room in
    let few : length (k.sq queue.region).window + 1 ≤ highest_count = omega arith in
    let fits : FitsUnder q (Some (counted_on k queue (length (k.sq queue.region).window + 1))) = record { qid = was.qid; count = few_on (k.held queue.region) _ _ few; admin = was.admin } in
    record {
      stands = record { stands = s.arbitration.stands.stands; observed = put_observed k.board.queues q _ s.arbitration.stands.observed (λ l. fits) };
      lawful = s.arbitration.lawful;
    }

-- ---- picks
-- what holds after a pick: the board stands at the history with it, which is a lawful run
record HoldsPick (rules : FrontRules) (past : Past) (seen : List Seen) (pick : Pick) (after : BoardView) : Type 0 where
  stands : BoardStandsAt rules.mechanism rules.start.settings (arbitration_of (event.Pick seen pick ∷ past)) after
  lawful : IsLimitedRun rules.mechanism rules.start.settings (arbitration_of (event.Pick seen pick ∷ past))

-- a pick of the board is a lawful pick of what it shows
picks : (rules : FrontRules) (late : Bool) (past : Past) (k : Content) (queue : Queue) (seen : List Seen) (pick : Pick) (after : BoardView)
    → Holds rules late past k → CanPick rules past k queue pick after → seen ≡ seen_of k.board.queues → HoldsPick rules past seen pick after
picks rules late past k queue seen pick after s can seen_is =
    record {
      stands = subst (λ (xs : List Seen). BoardStandsAt rules.mechanism rules.start.settings (Picked xs pick ∷ arbitration_of past) after) (sym seen_is) can.board_stands;
      lawful = (
        subst IsObservation (sym seen_is) s.arbitration.stands.observed,
        subst (λ (xs : List Seen). IsLimitedPick rules.mechanism rules.start.settings (arbitration_of past) xs pick) (sym seen_is) can.lawful,
        s.arbitration.lawful,
      );
    }

-- an I/O pick is a lawful one
pub arbitration-io : KeepsIo Arbitration
arbitration-io rules late past k queue seen pick board c s can seen_is io attached =
    let is = picks rules late past k queue seen pick board s can seen_is in
    record { stands = is.stands; lawful = is.lawful }

-- ---- what an admin command makes
-- aborts leave the arbitration history
aborts_leave_arbitration : (r : ℕ) (is : List ℕ) (past : Past) → arbitration_of (with_events (map (λ (i : ℕ). Abort r i) is) past) ≡ arbitration_of past
aborts_leave_arbitration r [] past = refl
aborts_leave_arbitration r (i ∷ is) past = aborts_leave_arbitration r is (Abort r i ∷ past)

-- the board of a pick has the places of the board before it
pick_size : (rules : FrontRules) (past : Past) (k : Content) (queue : Queue) (pick : Pick) (after : BoardView) → CanPick rules past k queue pick after
    → length k.board.queues ≡ queue_limit → length after.queues ≡ queue_limit
pick_size rules past k queue pick after can size =
    ap length can.board_queues ∙ length-set k.board.queues pick.qid (option_map (board.fewer pick.n) (queue_at k.board.queues pick.qid)) ∙ size

module _ (rules : FrontRules) (late : Bool) (past : Past) (k : Content) (seen : List Seen) (pick : Pick) (picked : BoardView)
    (candidate : Candidate) (table : QueueTable) (c : ℕ) (after : BoardView) (is : HoldsPick rules past seen pick picked) (size : length picked.queues ≡ queue_limit) where
  -- a queue is opened with no candidate
  opens : (qid : ℕ) (class : Class) → (qid ≡ 0 → ⊥) → (class ≡ Admin → ⊥)
      → BoardStandsAt rules.mechanism rules.start.settings (arbitration_of (event.Pick seen pick ∷ past))
      (record picked { queues = slice_set picked.queues qid (Some (record { class = class; count = 0 })) })
  opens qid class not_zero not_admin = record {
    stands = is.stands.stands;
    observed = put_observed picked.queues qid (Some (record { class = class; count = 0 })) is.stands.observed
        (λ l. record { qid = omega arith; count = omega arith; admin = (λ e. absurd (not_admin e), λ e. absurd (not_zero e)) });
  }

  -- a queue that is closing is taken from the board
  closes : (qid : ℕ) (queue : Queue) → HoldsArbitration rules (with_events (closing_of past qid (Some queue)) (event.Pick seen pick ∷ past)) (deleting_from (applied_to k picked table) qid c candidate (Some queue))
  closes qid queue =
      let same : arbitration_of (with_events (closing_of past qid (Some queue)) (event.Pick seen pick ∷ past)) ≡ arbitration_of (event.Pick seen pick ∷ past) =
      aborts_leave_arbitration queue.region (waiting past queue.region) (event.Closing qid queue.region ∷ event.Pick seen pick ∷ past) in
      let stands : BoardStandsAt rules.mechanism rules.start.settings (arbitration_of (event.Pick seen pick ∷ past)) (record picked { queues = slice_set picked.queues qid None }) = record {
        stands = is.stands.stands;
        observed = put_observed picked.queues qid None is.stands.observed (λ l. tt);
      } in
      record {
        stands = subst (λ (h : History). BoardStandsAt rules.mechanism rules.start.settings h (record picked { queues = slice_set picked.queues qid None })) (sym same) stands;
        lawful = subst (IsLimitedRun rules.mechanism rules.start.settings) (sym same) is.lawful;
      }

  -- a completion queue is closed, or isn't there
  by_cq : (qid : ℕ) (o : Option ℕ) → HoldsArbitration rules (with_events (closed_cq_of qid o) (event.Pick seen pick ∷ past)) (after_admin past (applied_to k picked table) candidate c after (CloseCq qid))
  by_cq qid None = record { stands = is.stands; lawful = is.lawful }
  by_cq qid (Some region) = record { stands = is.stands; lawful = is.lawful }

  -- the deletion of a queue begins, or it isn't there
  by_sq : (qid : ℕ) (o : Option Queue) → HoldsArbitration rules (with_events (closing_of past qid o) (event.Pick seen pick ∷ past)) (deleting_from (applied_to k picked table) qid c candidate o)
  by_sq qid None = record { stands = is.stands; lawful = is.lawful }
  by_sq qid (Some queue) = closes qid queue

  -- a candidate leaves the window of a queue, or none is found
  by_found : (queue : Queue) (sqid cid : ℕ) (o : Option Candidate)
      → ((found : Candidate) → o ≡ Some found → (h : History) → BoardStandsAt rules.mechanism rules.start.settings h picked → BoardStandsAt rules.mechanism rules.start.settings h after)
      → HoldsArbitration rules (with_events (abort_in past cid (Some queue)) (event.Pick seen pick ∷ past)) (aborting_in (applied_to k picked table) candidate sqid queue.region c cid after o)
  by_found queue sqid cid None chosen =
      let same : arbitration_of (with_events (abort_in past cid (Some queue)) (event.Pick seen pick ∷ past)) ≡ arbitration_of (event.Pick seen pick ∷ past) =
      aborts_leave_arbitration queue.region (take 1 (named past queue.region cid)) (event.Pick seen pick ∷ past) in
      record {
        stands = subst (λ (h : History). BoardStandsAt rules.mechanism rules.start.settings h picked) (sym same) is.stands;
        lawful = subst (IsLimitedRun rules.mechanism rules.start.settings) (sym same) is.lawful;
      }
  by_found queue sqid cid (Some found) chosen =
      let same : arbitration_of (with_events (abort_in past cid (Some queue)) (event.Pick seen pick ∷ past)) ≡ arbitration_of (event.Pick seen pick ∷ past) =
      aborts_leave_arbitration queue.region (take 1 (named past queue.region cid)) (event.Pick seen pick ∷ past) in
      record {
        stands = subst (λ (h : History). BoardStandsAt rules.mechanism rules.start.settings h after) (sym same)
            (chosen found refl (arbitration_of (event.Pick seen pick ∷ past)) is.stands);
        lawful = subst (IsLimitedRun rules.mechanism rules.start.settings) (sym same) is.lawful;
      }

  -- an Abort command, by the queue that it names
  by_target : (sqid cid : ℕ) (o : Option Queue)
      → ((queue : Queue) (found : Candidate) → o ≡ Some queue → oldest_named cid ((applied_to k picked table).sq queue.region).window ≡ Some found
      → (h : History) → BoardStandsAt rules.mechanism rules.start.settings h picked → BoardStandsAt rules.mechanism rules.start.settings h after)
      → HoldsArbitration rules (with_events (abort_in past cid o) (event.Pick seen pick ∷ past)) (aborting_from (applied_to k picked table) candidate sqid c cid after o)
  by_target sqid cid None chosen = record { stands = is.stands; lawful = is.lawful }
  by_target sqid cid (Some queue) chosen =
      by_found queue sqid cid (oldest_named cid ((applied_to k picked table).sq queue.region).window) (λ found e. chosen queue found refl e)

  -- what a verdict makes keeps the board at the arbitration history
  by_verdict : (h : TableHistory) (v : Verdict) → TellsChange rules.start h candidate.entry v → IsChosen rules past k c picked after v
      → ((sqid : ℕ) (queue : Queue) → target_of past sqid ≡ Some queue → (applied_to k picked table).sq queue.region ≡ k.sq queue.region)
      → HoldsArbitration rules (admin_past past (event.Pick seen pick) v) (after_admin past (applied_to k picked table) candidate c after v)
  by_verdict h (Done status dw0) tells chosen left = record { stands = is.stands; lawful = is.lawful }
  by_verdict h (verdict.OpenSq qid region cqid class) tells chosen left =
      let stands = opens qid class tells.due.not_admin tells.due.class_of_io in
      record { stands = stands; lawful = is.lawful }
  by_verdict h (verdict.OpenCq qid region) tells chosen left = record { stands = is.stands; lawful = is.lawful }
  by_verdict h (verdict.Abort sqid cid) tells chosen left =
      by_target sqid cid (target_of past sqid) (λ queue found e named. (chosen queue found e (ap (λ (z : SqContent). oldest_named cid z.window) (sym (left sqid queue e)) ∙ named)).stands)
  by_verdict h (verdict.SetArbitration settings) tells chosen left = record { stands = chosen.1 (arbitration_of (event.Pick seen pick ∷ past)) is.stands; lawful = is.lawful }
  by_verdict h (CloseCq qid) tells chosen left = by_cq qid (open_cq past qid)
  by_verdict h (BeginDelete qid) tells chosen left = by_sq qid (open_sq past qid)

-- an admin pick is a lawful one, and what its command makes keeps the board
pub arbitration-admin : KeepsAdmin Arbitration
arbitration-admin rules late past k seen pick picked candidate rest table c board s can seen_is z one apply chosen =
    by_verdict rules late past k seen pick picked candidate table c board (picks rules late past k admin_queue seen pick picked s can seen_is)
    (pick_size rules past k admin_queue pick picked can s.queues.board_size) s.tabled.history (verdict_at rules s.tabled.history candidate)
    (TellsChange-entry rules.start s.tabled.history candidate.entry) chosen
    (λ sqid queue e. target_left past k s.queues (subst (λ (q : ℕ). open_sq past q ≡ Some admin_queue) z can.is_open) sqid queue e (picked_sq (k.sq 0) 1))

-- ---- a post, and the end of a deletion
-- a post leaves the board
pub arbitration-post : KeepsPost Arbitration
arbitration-post rules late past k c t rest cqe s can = record { stands = s.arbitration.stands; lawful = s.arbitration.lawful }

-- and so does the end of a deletion
pub arbitration-close : KeepsClose Arbitration
arbitration-close rules late past k d table s can = record { stands = s.arbitration.stands; lawful = s.arbitration.lawful }
