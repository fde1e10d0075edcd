-- The places in hand are picked and unanswered after each step of a controller.
use Rattle.std.proofs.Common.{◌≡◌, ℕ, ◌≤◌, Bool, true, false, List, ◌∷◌, ◌++◌, map, take, Option, Some, None, refl, sym, ap, ◌∙◌, subst, arith, ◌==◌, ◌&&◌, slice_index_or, not, nat_lt, length}
use Rattle.std.specs.Prelude.{sum_by, option_map, All}
use Rattle.std.proofs.lemmas.Bool.{eq-eqb, ne_eqb}
use Rattle.std.proofs.lemmas.List.Sums.{get_or-le-sum_by}
use Rattle.std.proofs.lemmas.List.Elements.{All-append, All-take, All-map, All-same}
use Rattle.nvme_entry.specs.declared.submission.Sqe.{Sqe}
use Rattle.nvme_arbiter.specs.Board.{BoardView}
use Rattle.nvme_arbiter.specs.declared.pick.Pick.{Pick}
use Rattle.nvme_arbiter.specs.declared.pick.Seen.{Seen}
use Rattle.nvme_admin.specs.Accepted.{queue_table}
use Rattle.nvme_admin.specs.Changes.{IsDue}
use Rattle.nvme_admin.specs.declared.verdict.Verdict.{Verdict}
use Rattle.nvme_admin.specs.declared.verdict.Verdict.TheVariants.{Done, BeginDelete, CloseCq}
use Rattle.nvme_admin.specs.declared.verdict.Verdict.TheVariants as verdict
use Rattle.nvme_admin.proofs.Changed.{TellsChange-entry}
use Rattle.nvme_log.specs.declared.event.Event.TheVariants as event
use Rattle.nvme_log.specs.Rules.{FrontRules, Past}
use Rattle.nvme_log.specs.Queues.{Queue, open_sq, open_cq, cq_region_of}
use Rattle.nvme_log.specs.Places.{waiting, entry_at, is_aborted, is_served, one_if, is_waiting, fate_of, fetched}
use Rattle.nvme_log.specs.declared.place.Place.{Place}
use Rattle.nvme_log.specs.Effects.{closing_of, closed_cq_of, abort_in, named, target_of}
use Rattle.nvme_ctrl_content.specs.Content.{Candidate, Attachment, Content}
use Rattle.nvme_ctrl_content.specs.Standing.{HoldsReady, IsInHand, Holds, held_upto, hand_of}
use Rattle.nvme_ctrl_content.specs.Steps.{applied_to, verdict_at, oldest_named}
use Rattle.nvme_ctrl_log.proofs.ServedPlaces.{aborts-leave, entry_stays}
use Rattle.nvme_ctrl_content.proofs.Readying.{waiting-unaborted}
use Rattle.nvme_ctrl_content.proofs.ReadyAdmin.{aborts-other, served-apart, unused_apart}
use Rattle.nvme_ctrl_content.proofs.ReadyHand.{times_held-append, All-taken}
use Rattle.nvme_ctrl_log.proofs.LaterEvents.{with_events}
use Rattle.nvme_ctrl_content.proofs.AfterSteps.{admin_past, after_admin, deleting_from, fetch_event, post_event, closed_event, aborting_from, aborting_in, place_of}
use Rattle.nvme_ctrl_content.proofs.StepKeeps.{KeepsFetch, KeepsIo, KeepsAnswer, KeepsAdmin, KeepsPost, KeepsClose, Hand}
use Rattle.nvme_ctrl_content.proofs.Named.{named_among}

-- a log goes on so that entries and completion regions stay, and that places that were served and not aborted aren't aborted
pub record LeavesHand (past later : Past) : Type 0 where
  pub entries : (r i : ℕ) (e : Sqe) → entry_at past r i ≡ Some e → entry_at later r i ≡ Some e
  pub cq_regions : (r c : ℕ) → cq_region_of past r ≡ Some c → cq_region_of later r ≡ Some c
  pub unaborted : (r i : ℕ) → is_served past r i ≡ true → is_aborted past r i ≡ false → is_aborted later r i ≡ false

-- a place in hand was served
pub hand_served : (past : Past) (k : Content) → HoldsReady past k (hand_of k) → All (λ (p : Place). is_served past p.region p.index ≡ true) k.hand
hand_served past k ready j e lt =
    let p : Place = slice_index_or k.hand j e in
    let own : Place → ℕ = λ x. one_if (x.region == p.region && x.index == p.index) in
    let itself : own p ≡ 1 = rw (eq-eqb p.region p.region refl, eq-eqb p.index p.index refl) refl in
    let here : own p ≤ sum_by own k.hand = get_or-le-sum_by own k.hand j e lt in
    counts_true (is_served past p.region p.index)
    (omega (arith, ready.once p.region p.index, times_held-append p.region p.index k.hand (held_upto k.deletion k.nsq))) where
      counts_true : (b : Bool) → 1 ≤ one_if b → b ≡ true
      counts_true true l = refl
      counts_true false l = absurd (omega arith)

-- so it waits no longer
pub hand_done : (past : Past) (k : Content) → HoldsReady past k (hand_of k) → All (λ (p : Place). is_waiting (fate_of past p.region p.index) ≡ false) k.hand
hand_done past k ready j e lt =
    let p : Place = slice_index_or k.hand j e in
    by (nat_lt p.index (length (fetched past p.region))) (is_waiting (fate_of past p.region p.index)) (hand_served past k ready j e lt) where
      by : (a b : Bool) → (a && not b) ≡ true → b ≡ false
      by true true h = cc h
      by true false h = refl
      by false b h = cc h

-- such a log leaves the places in hand
hand_left : (past later : Past) (k : Content) → HoldsReady past k (hand_of k) → LeavesHand past later → All (IsInHand past) k.hand → All (IsInHand later) k.hand
hand_left past later k ready l h j e lt =
    let p : Place = slice_index_or k.hand j e in
    let was : IsInHand past p = h j e lt in
    record {
      entry = was.entry;
      is_there = l.entries p.region p.index was.entry was.is_there;
      not_aborted = l.unaborted p.region p.index (hand_served past k ready j e lt) was.not_aborted;
      cq_region = was.cq_region;
      attached = l.cq_regions p.region was.cq_region was.attached;
    }

-- ---- events that pick no I/O command
-- a fetch leaves the places in hand
pub hand-fetch : KeepsFetch Hand
hand-fetch rules late past k q queue entry s can regions = record {
  each = hand_left past (fetch_event k queue entry ∷ past) k s.ready (record {
    entries = λ r i e h. entry_stays past queue.region (k.sq queue.region).fetched r i entry e h;
    cq_regions = λ r c h. h;
    unaborted = λ r i served h. h;
  }) s.hand.each;
}

-- and so does a post
pub hand-post : KeepsPost Hand
hand-post rules late past k c t rest cqe s can regions = record {
  each = hand_left past (post_event c t cqe ∷ past) k s.ready (record {
    entries = λ r i e h. h;
    cq_regions = λ r c h. h;
    unaborted = λ r i served h. h;
  }) s.hand.each;
}

-- and the end of a deletion
pub hand-close : KeepsClose Hand
hand-close rules late past k d table s can regions = record {
  each = hand_left past (closed_event d ∷ past) k s.ready (record {
    entries = λ r i e h. h;
    cq_regions = λ r c h. h;
    unaborted = λ r i served h. h;
  }) s.hand.each;
}

-- ---- an I/O pick
-- an I/O pick takes the oldest candidates of its queue in hand
pub hand-io : KeepsIo Hand
hand-io rules late past k queue seen pick board c s can observed io attached regions =
    let r : ℕ = queue.region in
    let later : Past = event.Pick seen pick ∷ past in
    let taken : List Candidate = take pick.n (k.sq r).window in
    let sq = s.regions r in
    record {
      each = All-append (IsInHand later) k.hand (map (place_of r) taken) (λ i e lt.
          let was = s.hand.each i e lt in
          record { entry = was.entry; is_there = was.is_there; not_aborted = was.not_aborted; cq_region = was.cq_region; attached = was.attached })
          (All-map (IsInHand later) (place_of r) taken
          (All-take (λ (x : Candidate). IsInHand later (place_of r x)) pick.n (k.sq r).window
          (λ i e lt. record {
            entry = (slice_index_or (k.sq r).window i e).entry;
            is_there = sq.entries i e lt;
            not_aborted = waiting-unaborted past r (k.sq r) sq i e lt;
            cq_region = c;
            attached = s.queues.cq_region_is r ∙ ap (option_map (λ (a : Attachment). a.cq_region)) attached;
          })));
    }

-- ---- an answer
-- an answer leaves the other places in hand
pub hand-answer : KeepsAnswer Hand
hand-answer rules late past k p before after sqid c cid answer entry s can there names regions =
    record { each = (All-taken (IsInHand past) before p after (All-same (IsInHand past) (before ++ p ∷ after) k.hand (sym can.in_hand) s.hand.each)).1 }

-- ---- an admin pick
module _ (rules : FrontRules) (late : Bool) (past : Past) (k : Content) (seen : List Seen) (pick : Pick) (s : Holds rules late past k) where
  -- a pick alone leaves the rest
  pick-leaves : LeavesHand past (event.Pick seen pick ∷ past)
  pick-leaves = record { entries = λ r i e h. h; cq_regions = λ r c h. h; unaborted = λ r i served h. h }

  -- the closing of a completion queue, where it is open
  closing-leaves : (qid : ℕ) (o : Option ℕ) → LeavesHand past (with_events (closed_cq_of qid o) (event.Pick seen pick ∷ past))
  closing-leaves qid None = pick-leaves
  closing-leaves qid (Some region) =
      record {
        entries = λ r i e h. h;
        cq_regions = λ r c h. h;
        unaborted = λ r i served h. h;
      }

  -- the beginning of a deletion aborts places that wait
  deleting-leaves : (qid : ℕ) (o : Option Queue) → LeavesHand past (with_events (closing_of past qid o) (event.Pick seen pick ∷ past))
  deleting-leaves qid None = pick-leaves
  deleting-leaves qid (Some queue) =
      let region : ℕ = queue.region in
      let ws : List ℕ = waiting past region in
      let middle : Past = event.Closing qid region ∷ event.Pick seen pick ∷ past in
      record {
        entries = λ r i e h. aborts-leave (λ (p : Past). entry_at p r i) (λ p x j. refl) region ws middle ∙ h;
        cq_regions = λ r c h. aborts-leave (λ (p : Past). cq_region_of p r) (λ p x j. refl) region ws middle ∙ h;
        unaborted = λ r i served h. aborts-other region r i ws middle (served-apart past region r i served) ∙ h;
      }

  -- an Abort command aborts a place that waits
  aborting-leaves : (cid : ℕ) (o : Option Queue) → LeavesHand past (with_events (abort_in past cid o) (event.Pick seen pick ∷ past))
  aborting-leaves cid None = pick-leaves
  aborting-leaves cid (Some queue) =
      let region : ℕ = queue.region in
      let ws : List ℕ = take 1 (named past region cid) in
      let middle : Past = event.Pick seen pick ∷ past in
      record {
        entries = λ r i e h. aborts-leave (λ (p : Past). entry_at p r i) (λ p x j. refl) region ws middle ∙ h;
        cq_regions = λ r c h. aborts-leave (λ (p : Past). cq_region_of p r) (λ p x j. refl) region ws middle ∙ h;
        unaborted = λ r i served h. aborts-other region r i ws middle
            (named_among (λ (j : ℕ). one_if (region == r && j == i)) past region cid (served-apart past region r i served)) ∙ h;
      }

  -- what a verdict makes
  verdict-leaves : (v : Verdict) → IsDue (queue_table rules.start s.tabled.history) v → LeavesHand past (admin_past past (event.Pick seen pick) v)
  verdict-leaves (Done status dw0) due = pick-leaves
  verdict-leaves (verdict.OpenSq qid region cqid class) due = record {
    entries = λ r i e h. h;
    cq_regions = λ r x h. rw (ne_eqb region r (unused_apart rules late past k s region due.unused r x h)) h;
    unaborted = λ r i served h. h;
  }
  verdict-leaves (verdict.OpenCq qid region) due =
      record {
        entries = λ r i e h. h;
        cq_regions = λ r c h. h;
        unaborted = λ r i served h. h;
      }
  verdict-leaves (CloseCq qid) due = closing-leaves qid (open_cq past qid)
  verdict-leaves (verdict.Abort sqid cid) due = aborting-leaves cid (target_of past sqid)
  verdict-leaves (verdict.SetArbitration settings) due =
      record {
        entries = λ r i e h. h;
        cq_regions = λ r c h. h;
        unaborted = λ r i served h. h;
      }
  verdict-leaves (BeginDelete qid) due = deleting-leaves qid (open_sq past qid)

-- what an admin command leaves has the same places in hand
same_hand : (past : Past) (k : Content) (candidate : Candidate) (c : ℕ) (board : BoardView) (v : Verdict) → (after_admin past k candidate c board v).hand ≡ k.hand
same_hand past k candidate c board (Done status dw0) = refl
same_hand past k candidate c board (verdict.OpenSq qid region cqid class) = refl
same_hand past k candidate c board (verdict.OpenCq qid region) = refl
same_hand past k candidate c board (CloseCq qid) = refl
same_hand past k candidate c board (verdict.SetArbitration settings) = refl
same_hand past k candidate c board (verdict.Abort sqid cid) = same (target_of past sqid) where
  found : (queue : Queue) (o : Option Candidate) → (aborting_in k candidate sqid queue.region c cid board o).hand ≡ k.hand
  found queue None = refl
  found queue (Some it) = refl

  same : (o : Option Queue) → (aborting_from k candidate sqid c cid board o).hand ≡ k.hand
  same None = refl
  same (Some queue) = found queue (oldest_named cid (k.sq queue.region).window)
same_hand past k candidate c board (BeginDelete qid) = same (open_sq past qid) where
  same : (o : Option Queue) → (deleting_from k qid c candidate o).hand ≡ k.hand
  same None = refl
  same (Some queue) = refl

-- an admin pick aborts no place in hand
pub hand-admin : KeepsAdmin Hand
hand-admin rules late past k seen pick picked candidate rest table c board s can observed admin one apply chosen regions =
    let v : Verdict = verdict_at rules s.tabled.history candidate in
    let later : Past = admin_past past (event.Pick seen pick) v in
    record {
      each = subst (λ (ps : List Place). All (IsInHand later) ps) (sym (same_hand past (applied_to k picked table) candidate c board v))
          (hand_left past later k s.ready
          (verdict-leaves rules late past k seen pick s v (TellsChange-entry rules.start s.tabled.history candidate.entry).due) s.hand.each);
    }
