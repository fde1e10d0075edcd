-- The steps of a controller: when each may be made, its event, and what the controller keeps after it.
use Rattle.std.proofs.Common.{◌≡◌, ℕ, ◌+◌, ◌-◌, ◌%◌, ◌<◌, false, not, List, [], ◌∷◌, ◌++◌, map, length, take, Option, Some, None}
use Rattle.std.specs.Prelude.{slice_set}
use Rattle.nvme_entry.specs.Status.{success}
use Rattle.nvme_entry.specs.declared.submission.Sqe.{Sqe}
use Rattle.nvme_entry.specs.declared.completion.Cqe.{Cqe}
use Rattle.nvme_arbiter.specs.History.{History, Changed}
use Rattle.nvme_log.specs.Limits.{window_of}
use Rattle.nvme_arbiter.specs.Board.{BoardView, BoardStandsAt}
use Rattle.nvme_arbiter.specs.declared.settings.Class.{Class}
use Rattle.nvme_admin.specs.History.{TableHistory, DeletionFinished}
use Rattle.nvme_admin.specs.Accepted.{queue_table}
use Rattle.nvme_admin.specs.Checks.{status_in, dw0_in}
use Rattle.nvme_admin.specs.QueueTable.{QueueTable}
use Rattle.nvme_admin.specs.declared.verdict.Verdict.{Verdict}
use Rattle.nvme_admin.specs.declared.verdict.Verdict.TheVariants.{Done, BeginDelete, CloseCq}
use Rattle.nvme_admin.specs.declared.verdict.Verdict.TheVariants as verdict
use Rattle.nvme_log.specs.declared.event.Event.{Event}
use Rattle.nvme_log.specs.declared.event.Event.TheVariants as event
use Rattle.nvme_log.specs.Rules.{FrontRules, Past}
use Rattle.nvme_log.specs.Queues.{Queue, open_sq, open_cq}
use Rattle.nvme_log.specs.Completions.{phase_after}
use Rattle.nvme_log.specs.Effects.{made_by, target_of}
use Rattle.nvme_ctrl_content.specs.Content.{Candidate, Ready, PendingDelete, SqContent, CqContent, Content, with_sq, with_cq, with_ready, put_held, put_class, put_deletion, put_life}
use Rattle.nvme_ctrl_content.specs.Standing.{counted_on}
use Rattle.nvme_log.specs.declared.place.Place.{Place}
use Rattle.nvme_log.specs.Places.{one_if}
use Rattle.nvme_log.specs.Dispatches.{place_at}
use Rattle.nvme_log.specs.Answers.{Answer}
use Rattle.nvme_ctrl_content.specs.Carrying.{opening_cq}
use Rattle.nvme_ctrl_content.specs.Steps.{aborted, after_pick, done, oldest_named, requested, told, without_oldest}
use Rattle.nvme_ctrl_log.proofs.LaterEvents.{with_events}

-- ready completions more in a completion region
abbrev pub with_readies : Content → ℕ → List Ready → Content
with_readies k c ts = with_cq k c (record (k.cq c) { ready = (k.cq c).ready ++ ts })

-- ---- a fetch
pub record CanFetch (past : Past) (k : Content) (q : ℕ) (queue : Queue) : Type 0 where
  pub is_open : open_sq past q ≡ Some queue
  pub room : length (k.sq queue.region).window < window_of (k.sq queue.region).slots

abbrev pub fetched_sq : SqContent → Sqe → SqContent
fetched_sq s entry = record s {
  got = s.got ++ entry ∷ [];
  window = s.window ++ record { index = s.fetched; entry = entry } ∷ [];
  fetched = s.fetched + 1;
}

abbrev pub came_board : Content → ℕ → Queue → BoardView
came_board k q queue = record k.board {
  queues = slice_set k.board.queues q (Some (counted_on k queue (length (k.sq queue.region).window + 1)));
}

abbrev pub fetch_event : Content → Queue → Sqe → Event
fetch_event k queue entry = event.Fetch queue.region (k.sq queue.region).fetched entry

abbrev pub after_fetch : Content → ℕ → Queue → Sqe → Content
after_fetch k q queue entry =
    record (with_sq k queue.region (fetched_sq (k.sq queue.region) entry)) { board = came_board k q queue }

abbrev pub place_of : ℕ → Candidate → Place
place_of r c = place_at r c.index

-- an I/O pick: its commands are for the device
abbrev pub after_io : Content → Queue → ℕ → BoardView → Content
after_io k queue n board = record (after_pick k queue n board) { hand = k.hand ++ map (place_of queue.region) (take n (k.sq queue.region).window) }

-- ---- a command is answered, which makes no event
-- its completion is then ready
pub record CanAnswer (k : Content) (p : Place) (before after : List Place) (sqid c : ℕ) : Type 0 where
  pub in_hand : k.hand ≡ before ++ p ∷ after
  pub attached : (k.sq p.region).queue ≡ Some (record { qid = sqid; cq_region = c })

-- sqid is the identifier of the queue, and the completion region c is that of the queue
abbrev pub after_answer : Content → Place → (before after : List Place) → (sqid c cid : ℕ) → Answer → Content
after_answer k p before after sqid c cid answer = with_ready (record k { hand = before ++ after }) c (done sqid p cid answer)

-- the answer of an admin command
abbrev pub answered : Candidate → Verdict → Ready
answered candidate v = told candidate (status_in v) (dw0_in v)

-- what a verdict makes of what the controller keeps. The answer of a deletion waits
abbrev pub with_opened : Content → (qid region cq_region : ℕ) → Class → Content
with_opened k qid region cq_region class =
    record (with_sq k region (record (k.sq region) { queue = Some (record { qid = qid; cq_region = cq_region }) })) {
      board = record k.board { queues = slice_set k.board.queues qid (Some (record { class = class; count = 0 })) };
      held = put_held k.held region false;
      classed = put_class k.classed region None;
      sq_life = put_life k.sq_life qid (Some region);
      sq_id = put_life k.sq_id region (Some qid);
    }

abbrev pub with_deleting : Content → (qid region c : ℕ) → Candidate → Content
with_deleting k qid region c candidate =
    record (with_readies (with_sq k region (record (k.sq region) { window = []; unposted = (k.sq region).unposted + length (k.sq region).window })) c
    (map (aborted qid region) (k.sq region).window)) {
      board = record k.board { queues = slice_set k.board.queues qid None };
      deletion = put_deletion k.deletion region (Some (record { place = place_at 0 candidate.index; cid = candidate.entry.cid; qid = qid; region = region }));
    }

-- the answer of an Abort command: Dword 0 is 0 where it aborted a candidate, and 1 otherwise
abbrev pub told_abort : Candidate → ℕ → Ready
told_abort candidate dw0 = told candidate success dw0

-- an Abort command took a candidate of a queue. `board` is the board with a candidate less
abbrev pub with_requested : Content → (sqid region c cid : ℕ) → BoardView → Candidate → Content
with_requested k sqid region c cid board found =
    record (with_ready (with_sq k region (record (k.sq region) { window = without_oldest cid (k.sq region).window; unposted = (k.sq region).unposted + 1 })) c
    (requested sqid region found)) {
      board = board;
      outstanding = k.outstanding + 1;
    }

-- an Abort command found a candidate of a queue, or none
abbrev pub aborting_in : Content → Candidate → (sqid region c cid : ℕ) → BoardView → Option Candidate → Content
aborting_in k candidate sqid region c cid board None = with_ready k 0 (told_abort candidate 1)
aborting_in k candidate sqid region c cid board (Some found) = with_ready (with_requested k sqid region c cid board found) 0 (told_abort candidate 0)

-- what an Abort command leaves, by the queue whose candidates it may abort
abbrev pub aborting_from : Content → Candidate → (sqid c cid : ℕ) → BoardView → Option Queue → Content
aborting_from k candidate sqid c cid board None = with_ready k 0 (told_abort candidate 1)
aborting_from k candidate sqid c cid board (Some queue) = aborting_in k candidate sqid queue.region c cid board (oldest_named cid (k.sq queue.region).window)

-- the events of an admin pick, after those before it
abbrev pub admin_past : Past → Event → Verdict → Past
admin_past past pick v = with_events (made_by past v) (pick ∷ past)

-- ---- a post
pub record CanPost (past : Past) (k : Content) (c : ℕ) (t : Ready) (rest : List Ready) (cqe : Cqe) : Type 0 where
  pub oldest : (k.cq c).ready ≡ t ∷ rest
  pub there : c < k.ncq
  pub attached : (k.sq t.place.region).queue ≡ Some (record { qid = t.sqid; cq_region = c })
  pub sqid : cqe.sqid ≡ t.sqid
  pub cid : cqe.cid ≡ t.cid
  pub status : cqe.status ≡ t.status
  pub dw0 : cqe.dw0 ≡ t.dw0
  pub sqhd : cqe.sqhd ≡ (k.sq t.place.region).fetched % (k.sq t.place.region).slots
  pub phase : cqe.phase ≡ phase_after (k.cq c).posted (k.cq c).slots

abbrev pub posted_cq : CqContent → List Ready → Cqe → CqContent
posted_cq s rest cqe = record s { sent = s.sent ++ cqe ∷ []; posted = s.posted + 1; ready = rest }

abbrev pub post_event : ℕ → Ready → Cqe → Event
post_event c t cqe = event.Post c t.place.region t.place.index cqe

abbrev pub after_post : Content → ℕ → Ready → List Ready → Cqe → Content
after_post k c t rest cqe =
    record (with_cq (with_sq k t.place.region (record (k.sq t.place.region) { unposted = (k.sq t.place.region).unposted - 1 })) c (posted_cq (k.cq c) rest cqe)) {
      outstanding = k.outstanding - one_if (not t.with_queue);
    }

-- ---- the end of a deletion
pub record CanClose (rules : FrontRules) (k : Content) (history : TableHistory) (d : PendingDelete) (table : QueueTable) : Type 0 where
  pub pending : k.deletion d.region ≡ Some d
  pub all_posted : (k.sq d.region).unposted ≡ 0
  pub table_is : table ≡ queue_table rules.start (DeletionFinished d.qid ∷ history)

abbrev pub closed_event : PendingDelete → Event
closed_event d = event.ClosedSq d.qid d.region

abbrev pub deleted : PendingDelete → Ready
deleted d = record { place = d.place; sqid = 0; cid = d.cid; with_queue = false; passed = false; status = success; dw0 = 0 }

-- the queue of a deletion is gone
abbrev pub closing_sq : Content → PendingDelete → QueueTable → Content
closing_sq k d table = record k {
  deletion = put_deletion k.deletion d.region None;
  table = table;
  sq_life = put_life k.sq_life d.qid None;
  sq_id = put_life k.sq_id d.region None;
}

abbrev pub after_closed : Content → PendingDelete → QueueTable → Content
after_closed k d table = with_ready (closing_sq k d table) 0 (deleted d)

-- a region has no identifier any more, where there is one
abbrev pub without_id : (ℕ → Option ℕ) → Option ℕ → ℕ → Option ℕ
without_id ids None = ids
without_id ids (Some region) = put_life ids region None

-- a completion queue is closed, which was open on a region
abbrev pub closing_from : Content → (qid : ℕ) → Option ℕ → Content
closing_from k qid region = record k { cq_life = put_life k.cq_life qid None; cq_id = without_id k.cq_id region }

-- what an admin command leaves, by its verdict. c is the completion region of a queue that is opened or deleted, or whose candidate is aborted, and
-- `board` is the board with new settings, or with a candidate less
abbrev pub deleting_from : Content → (qid c : ℕ) → Candidate → Option Queue → Content
deleting_from k qid c candidate None = with_ready k 0 (answered candidate (BeginDelete qid))
deleting_from k qid c candidate (Some queue) = with_deleting k qid queue.region c candidate

abbrev pub after_admin : Past → Content → Candidate → (c : ℕ) → BoardView → Verdict → Content
after_admin past k candidate c board (Done status dw0) = with_ready k 0 (answered candidate (Done status dw0))
after_admin past k candidate c board (verdict.OpenSq qid region cqid class) =
    with_ready (with_opened k qid region c class) 0 (answered candidate (verdict.OpenSq qid region cqid class))
after_admin past k candidate c board (verdict.OpenCq qid region) = with_ready (opening_cq k qid region) 0 (answered candidate (verdict.OpenCq qid region))
after_admin past k candidate c board (CloseCq qid) = with_ready (closing_from k qid (open_cq past qid)) 0 (answered candidate (CloseCq qid))
after_admin past k candidate c board (verdict.SetArbitration settings) =
    with_ready (record k { board = board }) 0 (answered candidate (verdict.SetArbitration settings))
after_admin past k candidate c board (BeginDelete qid) = deleting_from k qid c candidate (open_sq past qid)
after_admin past k candidate c board (verdict.Abort sqid cid) = aborting_from k candidate sqid c cid board (target_of past sqid)

-- what c and `board` are where an Abort command takes a candidate of a queue
pub record IsAbortChosen (rules : FrontRules) (k : Content) (sqid cid c : ℕ) (picked board : BoardView) (queue : Queue) : Type 0 where
  pub attached : (k.sq queue.region).queue ≡ Some (record { qid = sqid; cq_region = c })
  pub queues : board.queues ≡ slice_set picked.queues sqid (Some (counted_on k queue (length (without_oldest cid (k.sq queue.region).window))))
  pub stands : (h : History) → BoardStandsAt rules.mechanism rules.start.settings h picked → BoardStandsAt rules.mechanism rules.start.settings h board

-- what c and `board` are
abbrev pub IsChosen : FrontRules → Past → Content → ℕ → BoardView → BoardView → Verdict → Type 0
IsChosen rules past k c picked board (verdict.OpenSq qid region cqid class) = open_cq past cqid ≡ Some c
IsChosen rules past k c picked board (BeginDelete qid) =
    (queue : Queue) → open_sq past qid ≡ Some queue → (k.sq queue.region).queue ≡ Some (record { qid = qid; cq_region = c })
IsChosen rules past k c picked board (verdict.Abort sqid cid) =
    (queue : Queue) (found : Candidate) → target_of past sqid ≡ Some queue → oldest_named cid (k.sq queue.region).window ≡ Some found
    → IsAbortChosen rules k sqid cid c picked board queue
IsChosen rules past k c picked board (verdict.SetArbitration settings) =
    (board.queues ≡ picked.queues)
    × ((h : History) → BoardStandsAt rules.mechanism rules.start.settings h picked → BoardStandsAt rules.mechanism rules.start.settings (Changed settings ∷ h) board)
IsChosen rules past k c picked board v = Unit {0}
