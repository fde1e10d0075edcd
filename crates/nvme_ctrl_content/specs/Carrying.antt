-- What an admin command that is carried out makes of what a controller keeps (profile).
use Rattle.std.specs.Prelude.{◌≡◌, ◌≢◌, ℕ, ◌+◌, ◌<◌, ◌^◌, ◌==◌, true, false, [], ◌++◌, length, map, slice_set, Some, None}
use Rattle.std.specs.List.{All}
use Rattle.nvme_arbiter.specs.Board.{BoardView}
use Rattle.nvme_arbiter.specs.Queues.{queue_at}
use Rattle.nvme_arbiter.specs.declared.settings.Class.{Class}
use Rattle.nvme_admin.specs.declared.verdict.SqEntry.{SqEntry}
use Rattle.nvme_log.specs.Rules.{FrontRules}
use Rattle.nvme_log.specs.Queues.{Queue}
use Rattle.nvme_log.specs.Places.{fetched, is_aborted}
use Rattle.nvme_log.specs.Dispatches.{place_at}
use Rattle.nvme_ctrl_log.specs.Notes.{Notes, logged}
use Rattle.nvme_ctrl_content.specs.Content.{Candidate, Content, with_sq, with_cq, with_ready, put_held, put_class, put_deletion, put_life}
use Rattle.nvme_ctrl_content.specs.Standing.{on_board}
use Rattle.nvme_ctrl_log.specs.Regions.{is_opened_cq}
use Rattle.nvme_ctrl_content.specs.Steps.{aborted, requested, oldest_named, without_oldest}

-- ---- queues are opened and closed
-- a submission queue may be opened on a region of this size, to which nothing happened, and post to a completion queue
pub record IsOpenable (rules : FrontRules) (notes : Notes) (k : Content) (qid size cqid region c : ℕ) : Type 0 where
  pub entry : SqEntry
  pub in_table : k.table.sq qid ≡ Some entry
  pub on : entry.region ≡ region
  pub to : entry.cqid ≡ cqid
  pub few : qid < 65
  pub no_queue : k.sq_life qid ≡ None
  pub no_life : k.sq_id region ≡ None
  pub unopened : (k.sq region).queue ≡ None
  pub nothing_fetched : fetched (logged notes) region ≡ []
  pub none_unposted : (k.sq region).unposted ≡ 0
  pub undeleted : k.deletion region ≡ None
  pub size_is : size ≡ (k.sq region).slots
  pub some : 0 < size
  pub cq_open : k.cq_life cqid ≡ Some c

-- a completion queue may be opened on a region of this size, on which none was opened
pub record IsCqOpenable (rules : FrontRules) (notes : Notes) (k : Content) (cqid size c : ℕ) : Type 0 where
  pub few : cqid < 65
  pub no_queue : k.cq_life cqid ≡ None
  pub no_life : k.cq_id c ≡ None
  pub unopened : is_opened_cq (logged notes) c ≡ false
  pub size_is : size ≡ (k.cq c).slots
  pub some : 0 < size

-- no submission queue, open or closing, is attached to a completion queue, which isn't the admin queue's
pub record IsUnattached (k : Content) (cqid c : ℕ) : Type 0 where
  pub io : (cqid == 0) ≡ false
  pub none : (q : ℕ) (entry : SqEntry) → k.table.sq q ≡ Some entry → entry.cqid ≡ cqid → ⊥

-- a submission queue was opened, which isn't held, and whose class is its own
abbrev pub opening : Content → (qid region cq_region : ℕ) → Class → Content
opening k qid region cq_region class =
    record (with_sq k region (record (k.sq region) { queue = Some (record { qid = qid; cq_region = cq_region }) })) {
      board = record k.board { queues = slice_set k.board.queues qid (Some (record { class = class; count = 0 })) };
      held = put_held k.held region false;
      classed = put_class k.classed region None;
      sq_life = put_life k.sq_life qid (Some region);
      sq_id = put_life k.sq_id region (Some qid);
    }

-- a completion queue was opened, and closed
abbrev pub opening_cq : Content → (cqid c : ℕ) → Content
opening_cq k cqid c = record k { cq_life = put_life k.cq_life cqid (Some c); cq_id = put_life k.cq_id c (Some cqid) }

abbrev pub closing_cq : Content → (cqid c : ℕ) → Content
closing_cq k cqid c = record k { cq_life = put_life k.cq_life cqid None; cq_id = put_life k.cq_id c None }

-- ---- the deletion of a submission queue begins
-- the candidates of its region were dropped: their completions are ready
abbrev pub dropped : Content → (qid region c : ℕ) → Content
dropped k qid region c =
    with_cq (with_sq k region (record (k.sq region) { window = [] })) c
    (record (k.cq c) { ready = (k.cq c).ready ++ map (aborted qid region) (k.sq region).window })

-- the region was opened for the queue, whose candidates are aborted in the log
pub record IsDroppable (notes : Notes) (k : Content) (qid region c : ℕ) : Type 0 where
  pub there : k.sq_life qid ≡ Some region
  pub attached : (k.sq region).queue ≡ Some (record { qid = qid; cq_region = c })
  pub are_aborted : All (λ (x : Candidate). is_aborted (logged notes) region x.index ≡ true) (k.sq region).window
  -- it isn't the admin queue's, and isn't being deleted
  pub io : (region == 0) ≡ false
  pub undeleted : k.deletion region ≡ None

abbrev pub deleting : Content → (qid region c : ℕ) → Candidate → Content
deleting k qid region c candidate =
    record (with_cq (with_sq k region (record (k.sq region) { window = []; unposted = (k.sq region).unposted + length (k.sq region).window })) c
    (record (k.cq c) { ready = (k.cq c).ready ++ map (aborted qid region) (k.sq region).window })) {
      board = record k.board { queues = slice_set k.board.queues qid None };
      deletion = put_deletion k.deletion region (Some (record { place = place_at 0 candidate.index; cid = candidate.entry.cid; qid = qid; region = region }));
    }

-- ---- an Abort command
-- no candidate of an open I/O submission queue has a command identifier
abbrev pub HasNoneNamed : Content → (sqid cid : ℕ) → Type 0
HasNoneNamed k sqid cid = (entry : SqEntry) → sqid ≢ 0 → k.table.sq sqid ≡ Some entry → entry.closing ≡ false → oldest_named cid (k.sq entry.region).window ≡ None

-- a queue of the table, as an open queue of the log
abbrev pub queue_in : SqEntry → Queue
queue_in entry = record { region = entry.region; cqid = entry.cqid; class = entry.class }

-- the candidate that it names in an open queue is aborted in the log
pub record IsAbortableIn (notes : Notes) (k : Content) (sqid cid : ℕ) (entry : SqEntry) : Type 0 where
  pub there : k.sq_life sqid ≡ Some entry.region
  pub io : (entry.region == 0) ≡ false
  pub c : ℕ
  pub attached : (k.sq entry.region).queue ≡ Some (record { qid = sqid; cq_region = c })
  pub is_aborted : (found : Candidate) → oldest_named cid (k.sq entry.region).window ≡ Some found → is_aborted (logged notes) entry.region found.index ≡ true
  pub on_board : queue_at k.board.queues sqid ≡ Some (on_board k (queue_in entry))
  pub few_unposted : (k.sq entry.region).unposted + 1 < 2 ^ 16
  pub few_outstanding : (found : Candidate) → oldest_named cid (k.sq entry.region).window ≡ Some found → k.outstanding + 1 < 2 ^ 16

abbrev pub IsAbortable : Notes → Content → (sqid cid : ℕ) → Type 0
IsAbortable notes k sqid cid = (entry : SqEntry) → sqid ≢ 0 → k.table.sq sqid ≡ Some entry → entry.closing ≡ false → IsAbortableIn notes k sqid cid entry

-- a candidate was aborted: its completion is ready. `board` is the board with a candidate less
abbrev pub requesting : Content → (sqid region c cid : ℕ) → BoardView → Candidate → Content
requesting k sqid region c cid board found =
    record (with_ready (with_sq k region (record (k.sq region) { window = without_oldest cid (k.sq region).window; unposted = (k.sq region).unposted + 1 })) c
    (requested sqid region found)) {
      board = board;
      outstanding = k.outstanding + 1;
    }
