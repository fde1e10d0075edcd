-- What an answer leaves: counts, queues, the pending deletions, the board and the table.
use Rattle.std.proofs.Common.{◌≡◌, ℕ, ◌==◌, Bool, true, false, if◌then◌else◌, List, [], ◌∷◌, ◌++◌, refl, sym, ap, ◌∙◌, eqb-true}
use Rattle.nvme_log.specs.Rules.{FrontRules, Past}
use Rattle.nvme_log.specs.declared.place.Place.{Place}
use Rattle.nvme_ctrl_content.specs.Content.{CqContent, Content, Ready}
use Rattle.nvme_ctrl_content.specs.Standing.{HoldsCounts, HoldsQueues, HoldsDeletion, HoldsArbitration, HoldsTable}
use Rattle.nvme_ctrl_content.specs.Steps.{done}
use Rattle.nvme_ctrl_content.proofs.AfterSteps.{after_answer}
use Rattle.nvme_ctrl_content.proofs.StepKeeps.{KeepsAnswer, Regions, Counts, Queues, Deleting, Arbitration, Tabled}

-- ---- other places in hand, and other completion regions
-- what is kept, with these completion regions and places in hand
abbrev with_hand : Content → (ℕ → CqContent) → List Place → Content
with_hand k cq hand = record k { cq = cq; hand = hand }

module _ (rules : FrontRules) (late : Bool) (past : Past) (k : Content) (cq : ℕ → CqContent) (hand : List Place) where
  -- the counts are left
  counts-left : HoldsCounts rules past k → HoldsCounts rules past (with_hand k cq hand)
  counts-left h = record { unposted = h.unposted; outstanding_is = h.outstanding_is }

  -- the queues are left
  queues-left : HoldsQueues past k → HoldsQueues past (with_hand k cq hand)
  queues-left h = record {
    sqs = h.sqs;
    cqs = h.cqs;
    board = h.board;
    board_size = h.board_size;
    few = h.few;
    cq_there = h.cq_there;
    qid_is = h.qid_is;
    cq_region_is = h.cq_region_is;
    attached = λ q queue e. let a = h.attached q queue e in record { cq_region = a.cq_region; attached = a.attached };
    sq_there = h.sq_there;
    posts_there = h.posts_there;
    unused = h.unused;
    unopened = h.unopened;
    gone = h.gone;
    closed = h.closed;
    deleting = h.deleting;
  }

  -- the pending deletions are left
  deletion-left : HoldsDeletion past k → HoldsDeletion past (with_hand k cq hand)
  deletion-left h = record {
    place_is = h.place_is;
    stands = λ r d e. let is = h.stands r d e in record {
      at = is.at;
      closing = is.closing;
      in_table = is.in_table;
      is_closing = is.is_closing;
      region = is.region;
      of_admin = is.of_admin;
      entry = is.entry;
      is_there = is.is_there;
      cid = is.cid;
      not_aborted = is.not_aborted;
      none_waits = is.none_waits;
      not_closed = is.not_closed;
      not_admin = is.not_admin;
      attached = is.attached;
    };
  }

  -- the board is left
  arbitration-left : HoldsArbitration rules past k → HoldsArbitration rules past (with_hand k cq hand)
  arbitration-left h = record { stands = h.stands; lawful = h.lawful }

  -- the table is left, where the completion regions have as many slots
  table-left : ((c : ℕ) → (cq c).slots ≡ (k.cq c).slots) → HoldsTable rules late past k → HoldsTable rules late past (with_hand k cq hand)
  table-left slots h = record {
    history = h.history;
    table_is = h.table_is;
    few_queues = h.few_queues;
    in_time = h.in_time;
    placing = h.placing;
    history_is = h.history_is;
    sq_count = h.sq_count;
    cq_count = h.cq_count;
    sq_number = h.sq_number;
    cq_number = h.cq_number;
    sq_slots = h.sq_slots;
    cq_slots = λ c. h.cq_slots c ∙ sym (slots c);
    sq_regions_are = h.sq_regions_are;
    cq_regions_are = h.cq_regions_are;
  }

-- a ready completion more leaves the slots of each completion region
slots_left : (cq : ℕ → CqContent) (c : ℕ) (ready : List Ready) (x : ℕ) (b : Bool) → (x == c) ≡ b
    → (if b then record (cq c) { ready = ready } else cq x).slots ≡ (cq x).slots
slots_left cq c ready x true e = ap (λ (y : ℕ). (cq y).slots) (sym (eqb-true x c e))
slots_left cq c ready x false e = refl

-- ---- an answer
-- an answer leaves the places
pub regions-answer : KeepsAnswer Regions
regions-answer rules late past k p before after sqid c cid answer entry s can there names = s.regions

-- and the counts
pub counts-answer : KeepsAnswer Counts
counts-answer rules late past k p before after sqid c cid answer entry s can there names regions =
    counts-left rules late past k (after_answer k p before after sqid c cid answer).cq (before ++ after) s.counts

-- and the queues
pub queues-answer : KeepsAnswer Queues
queues-answer rules late past k p before after sqid c cid answer entry s can there names regions =
    queues-left rules late past k (after_answer k p before after sqid c cid answer).cq (before ++ after) s.queues

-- and the pending deletions
pub deleting-answer : KeepsAnswer Deleting
deleting-answer rules late past k p before after sqid c cid answer entry s can there names regions =
    deletion-left rules late past k (after_answer k p before after sqid c cid answer).cq (before ++ after) s.deletion

-- and the board
pub arbitration-answer : KeepsAnswer Arbitration
arbitration-answer rules late past k p before after sqid c cid answer entry s can there names =
    arbitration-left rules late past k (after_answer k p before after sqid c cid answer).cq (before ++ after) s.arbitration

-- and the table
pub tabled-answer : KeepsAnswer Tabled
tabled-answer rules late past k p before after sqid c cid answer entry s can there names =
    table-left rules late past k (after_answer k p before after sqid c cid answer).cq (before ++ after)
    (λ x. slots_left k.cq c ((k.cq c).ready ++ done sqid p cid answer ∷ []) x (x == c) refl) s.tabled
