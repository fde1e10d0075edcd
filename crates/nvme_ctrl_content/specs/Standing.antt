-- When what a controller keeps holds at its log (profile).
use Rattle.std.specs.Prelude.{◌≡◌, ℕ, zero, suc, ◌+◌, ◌≤◌, ◌<◌, ◌==◌, ◌&&◌, Bool, true, false, not, if◌then◌else◌, List, [], ◌++◌, length, filter, map, sum_by, Option, Some, None, option_map, option_to_list, unwrap_or, All, is_some}
use Rattle.nvme_entry.specs.Status.{success}
use Rattle.nvme_entry.specs.declared.submission.Sqe.{Sqe}
use Rattle.nvme_arbiter.specs.Limits.{highest_qid, highest_count, queue_limit}
use Rattle.nvme_arbiter.specs.Lawful.{IsLimitedRun}
use Rattle.nvme_arbiter.specs.Board.{BoardStandsAt}
use Rattle.nvme_arbiter.specs.Queues.{queue_at}
use Rattle.nvme_arbiter.specs.declared.pick.OpenQueue.{OpenQueue}
use Rattle.nvme_admin.specs.History.{TableHistory}
use Rattle.nvme_admin.specs.Accepted.{queue_table}
use Rattle.nvme_admin.specs.QueueTable.{QueueTable}
use Rattle.nvme_admin.specs.declared.verdict.SqEntry.{SqEntry}
use Rattle.nvme_log.specs.Rules.{FrontRules, Past, sq_regions_of, cq_regions_of, slots_at}
use Rattle.nvme_log.specs.Queues.{Queue, open_sq, open_cq, is_closed_region, qid_of_region, cq_region_of}
use Rattle.nvme_log.specs.Places.{fetched, waiting, picked, is_aborted, unaborted_below, entry_at, is_served, one_if}
use Rattle.nvme_log.specs.declared.place.Place.{Place}
use Rattle.nvme_log.specs.Histories.{arbitration_of, table_history}
use Rattle.nvme_log.specs.Aborts.{is_aborted_with_queue}
use Rattle.nvme_log.specs.Answers.{Answer}
use Rattle.nvme_log.specs.Completions.{is_posted, posts_of, posted_to, outstanding, own_status_by, own_dw0_by, unposted_of}
use Rattle.nvme_log.specs.Effects.{effects_since, made_last}
use Rattle.nvme_log.specs.Laws.{as_open}
use Rattle.nvme_ctrl_log.specs.Deletions.{deleting}
use Rattle.nvme_ctrl_log.specs.Making.{placing_in}
use Rattle.nvme_ctrl_content.specs.Content.{Candidate, Ready, PendingDelete, Attachment, SqContent, Content}
use Rattle.nvme_ctrl_log.specs.Regions.{over_regions, is_opened_cq}

-- ---- a submission region's places
-- the window is the places that wait, each with its entry; what was got is what was fetched; nothing is said of places that were not fetched
pub record HoldsSq (past : Past) (r : ℕ) (s : SqContent) : Type 0 where
  pub fetched_is : fetched past r ≡ s.got
  pub counted : s.fetched ≡ length s.got
  pub waiting_is : waiting past r ≡ map (λ (c : Candidate). c.index) s.window
  pub entries : All (λ (c : Candidate). entry_at past r c.index ≡ Some c.entry) s.window
  pub few_waiting : length s.window ≤ highest_count
  pub few_picked : picked past r ≤ unaborted_below past r (length s.got)
  pub none_aborted : (i : ℕ) → length s.got ≤ i → is_aborted past r i ≡ false
  pub none_posted : (i : ℕ) → length s.got ≤ i → is_posted past r i ≡ false

-- ---- ready completions
-- how often a place stands among ready completions, and among places
abbrev pub times_in : ℕ → ℕ → List Ready → ℕ
times_in r i ready = sum_by (λ (t : Ready). one_if (t.place.region == r && t.place.index == i)) ready

abbrev pub times_held : ℕ → ℕ → List Place → ℕ
times_held r i hand = sum_by (λ (p : Place). one_if (p.region == r && p.index == i)) hand

abbrev pub times_ready : Content → ℕ → ℕ → ℕ
times_ready k r i = over_regions (λ (c : ℕ). times_in r i (k.cq c).ready) k.ncq

-- the ready completions that hold an outstanding place: those of places that weren't aborted with their queue
abbrev pub ready_picked : Content → ℕ
ready_picked k = over_regions (λ (c : ℕ). length (filter (λ (t : Ready). not t.with_queue) (k.cq c).ready)) k.ncq

-- the place of the command of a deletion, which is answered when the deletion is finished
abbrev pub held_by : Option PendingDelete → List Place
held_by deletion = option_to_list (option_map (λ (d : PendingDelete). d.place) deletion)

-- those of the deletions of the first n regions
unfoldable pub held_upto : (ℕ → Option PendingDelete) → ℕ → List Place
held_upto deletion zero = []
held_upto deletion (suc n) = held_upto deletion n ++ held_by (deletion n)

-- the places that are picked and neither ready nor posted: those that have no answer yet, and those of the deletions
abbrev pub hand_of : Content → List Place
hand_of k = k.hand ++ held_upto k.deletion k.nsq

-- what is ready in a completion region is a completion of a place that goes there: it has the identifiers of its queue and of its command. One
-- that was aborted with its queue is of a queue that is being deleted
pub record IsReady (past : Past) (deletion : ℕ → Option PendingDelete) (c : ℕ) (t : Ready) : Type 0 where
  pub region : cq_region_of past t.place.region ≡ Some c
  pub queue : qid_of_region past t.place.region ≡ Some t.sqid
  pub entry : Sqe
  pub is_there : entry_at past t.place.region t.place.index ≡ Some entry
  pub cid : t.cid ≡ entry.cid
  pub with_queue : t.with_queue ≡ is_aborted_with_queue past t.place.region t.place.index
  pub deleting : t.with_queue ≡ true → is_some (deletion t.place.region) ≡ true

-- each picked or aborted place is once ready, once posted or once in hand: picked, but neither ready nor posted
pub record HoldsReady (past : Past) (k : Content) (hand : List Place) : Type 0 where
  pub once : (r i : ℕ) → times_ready k r i + posts_of past r i + times_held r i hand ≡ one_if (is_served past r i)
  pub each : (c : ℕ) → All (IsReady past k.deletion c) (k.cq c).ready
  pub taken : ready_picked k + length hand ≡ k.outstanding
  pub none_beyond : (c : ℕ) → k.ncq ≤ c → (k.cq c).ready ≡ []
  -- the admin queue is that of region 0, and posts to completion region 0
  pub admin_qid : qid_of_region past 0 ≡ Some 0
  pub admin_region : cq_region_of past 0 ≡ Some 0

-- ---- places in hand
-- a picked place that the device is to answer: its entry, and the completion region of its queue
pub record IsInHand (past : Past) (p : Place) : Type 0 where
  pub entry : Sqe
  pub is_there : entry_at past p.region p.index ≡ Some entry
  pub not_aborted : is_aborted past p.region p.index ≡ false
  pub cq_region : ℕ
  pub attached : cq_region_of past p.region ≡ Some cq_region

pub record HoldsHand (past : Past) (k : Content) : Type 0 where
  pub each : All (IsInHand past) k.hand

-- ---- counts and ends
pub record HoldsCounts (rules : FrontRules) (past : Past) (k : Content) : Type 0 where
  pub unposted : (r : ℕ) → (k.sq r).unposted ≡ unposted_of past r
  pub outstanding_is : k.outstanding ≡ outstanding rules past

pub record HoldsPosts (past : Past) (k : Content) : Type 0 where
  pub posted_is : (c : ℕ) → posted_to past c ≡ (k.cq c).sent
  pub counted : (c : ℕ) → (k.cq c).posted ≡ length (k.cq c).sent

-- ---- queues
-- an open queue as the board has it, where it has so many candidates: the class that was set, else its own, and a count of 0 where it is held
abbrev pub counted_on : Content → Queue → ℕ → OpenQueue
counted_on k queue n = record { class = unwrap_or (k.classed queue.region) queue.class; count = if k.held queue.region then 0 else n }

-- with its number of candidates
abbrev pub on_board : Content → Queue → OpenQueue
on_board k queue = counted_on k queue (length (k.sq queue.region).window)

-- a region was opened for the queue that is open on it, and posts to the region of its completion queue
pub record IsAttached (past : Past) (k : Content) (q : ℕ) (queue : Queue) : Type 0 where
  pub cq_region : ℕ
  pub attached : (k.sq queue.region).queue ≡ Some (record { qid = q; cq_region = cq_region })

-- a region that was opened for no queue: nothing happened to it
pub record IsUnopened (past : Past) (r : ℕ) (s : SqContent) : Type 0 where
  pub nothing_got : s.got ≡ []
  pub not_closed : is_closed_region past r ≡ false

-- a region whose queue was deleted: all its places are posted, none waits
pub record IsGone (s : SqContent) : Type 0 where
  pub all_posted : s.unposted ≡ 0
  pub none_waits : s.window ≡ []

-- the region of a deletion was opened for its queue
pub record IsOpenedFor (sq : ℕ → SqContent) (d : PendingDelete) : Type 0 where
  pub cq_region : ℕ
  pub opened : (sq d.region).queue ≡ Some (record { qid = d.qid; cq_region = cq_region })

pub record HoldsQueues (past : Past) (k : Content) : Type 0 where
  -- the open queues are those of the table, and of the board
  pub sqs : (q : ℕ) → open_sq past q ≡ as_open (k.table.sq q)
  pub cqs : (q : ℕ) → open_cq past q ≡ k.table.cq q
  pub board : (q : ℕ) → queue_at k.board.queues q ≡ option_map (on_board k) (open_sq past q)
  pub board_size : length k.board.queues ≡ queue_limit
  pub few : (q : ℕ) (queue : Queue) → open_sq past q ≡ Some queue → q ≤ highest_qid
  pub cq_there : (q c : ℕ) → open_cq past q ≡ Some c → c < k.ncq
  -- what each region was opened for
  pub qid_is : (r : ℕ) → qid_of_region past r ≡ option_map (λ (a : Attachment). a.qid) (k.sq r).queue
  pub cq_region_is : (r : ℕ) → cq_region_of past r ≡ option_map (λ (a : Attachment). a.cq_region) (k.sq r).queue
  pub attached : (q : ℕ) (queue : Queue) → open_sq past q ≡ Some queue → IsAttached past k q queue
  pub sq_there : (r : ℕ) (a : Attachment) → (k.sq r).queue ≡ Some a → r < k.nsq
  pub posts_there : (r : ℕ) (a : Attachment) → (k.sq r).queue ≡ Some a → a.cq_region < k.ncq
  -- a region that the table doesn't use was opened for none
  pub unused : (r : ℕ) → k.table.sq_region_used r ≡ false → (k.sq r).queue ≡ None
  pub unopened : (r : ℕ) → (k.sq r).queue ≡ None → IsUnopened past r (k.sq r)
  -- the region of a closed queue isn't opened again
  pub gone : (r : ℕ) → is_closed_region past r ≡ true → IsGone (k.sq r)
  pub closed : (q r : ℕ) (queue : Queue) → is_closed_region past r ≡ true → open_sq past q ≡ Some queue → queue.region ≡ r → ⊥
  -- the region of a deletion was opened for its queue
  pub deleting : (r : ℕ) (d : PendingDelete) → k.deletion r ≡ Some d → IsOpenedFor k.sq d

-- ---- the deletions
-- its queue is closing in the table, no candidate of it is left, and its region isn't closed yet
pub record IsPending (past : Past) (k : Content) (r : ℕ) (d : PendingDelete) : Type 0 where
  pub at : d.region ≡ r
  pub closing : SqEntry
  pub in_table : k.table.sq d.qid ≡ Some closing
  pub is_closing : closing.closing ≡ true
  pub region : closing.region ≡ d.region
  -- its command is one of the admin queue, and wasn't aborted
  pub of_admin : d.place.region ≡ 0
  pub entry : Sqe
  pub is_there : entry_at past d.place.region d.place.index ≡ Some entry
  pub cid : d.cid ≡ entry.cid
  pub not_aborted : is_aborted past d.place.region d.place.index ≡ false
  pub none_waits : (k.sq d.region).window ≡ []
  pub not_closed : is_closed_region past d.region ≡ false
  pub not_admin : d.region ≡ 0 → ⊥
  -- its region was opened for it
  pub attached : option_map (λ (a : Attachment). a.qid) (k.sq d.region).queue ≡ Some d.qid

pub record HoldsDeletion (past : Past) (k : Content) : Type 0 where
  pub place_is : (r : ℕ) → deleting past r ≡ option_map (λ (d : PendingDelete). d.place.index) (k.deletion r)
  pub stands : (r : ℕ) (d : PendingDelete) → k.deletion r ≡ Some d → IsPending past k r d

-- a submission queue of the table, open or closing, has this region
abbrev pub is_on : ℕ → Option SqEntry → Bool
is_on r None = false
is_on r (Some entry) = entry.region == r

-- they are those that are open, and the submission queues that are being deleted
pub record HoldsLives (past : Past) (k : Content) : Type 0 where
  pub sqs : (q : ℕ) (queue : Queue) → open_sq past q ≡ Some queue → k.sq_life q ≡ Some queue.region
  pub deleted : (r : ℕ) (d : PendingDelete) → k.deletion r ≡ Some d → k.sq_life d.qid ≡ Some r
  pub cqs : (q : ℕ) → k.cq_life q ≡ open_cq past q
  pub not_closed : (q r : ℕ) → k.sq_life q ≡ Some r → is_closed_region past r ≡ false
  -- the region of each was opened for it, and is that of its entry in the table
  pub named : (q r : ℕ) → k.sq_life q ≡ Some r → qid_of_region past r ≡ Some q
  pub in_table : (q r : ℕ) → k.sq_life q ≡ Some r → is_on r (k.table.sq q) ≡ true
  -- a region that was opened and isn't closed is that of one
  pub there : (r q : ℕ) → qid_of_region past r ≡ Some q → is_closed_region past r ≡ false → k.sq_life q ≡ Some r
  -- no queue was opened on a completion region that the table doesn't use
  pub unopened : (x : ℕ) → k.table.cq_region_used x ≡ false → is_opened_cq past x ≡ false

-- ---- arbitration and the table
pub record HoldsArbitration (rules : FrontRules) (past : Past) (k : Content) : Type 0 where
  pub stands : BoardStandsAt rules.mechanism rules.start.settings (arbitration_of past) k.board
  pub lawful : IsLimitedRun rules.mechanism rules.start.settings (arbitration_of past)

-- the identifiers of the queues of a table are within their limit
abbrev pub FewQueues : QueueTable → Type 0
FewQueues t = (q : ℕ) (entry : SqEntry) → t.sq q ≡ Some entry → q ≤ highest_qid

-- the table is that of a history. It is that of the log where no region was added late
pub record HoldsTable (rules : FrontRules) (late : Bool) (past : Past) (k : Content) : Type 0 where
  pub history : TableHistory
  pub table_is : k.table ≡ queue_table rules.start history
  pub few_queues : FewQueues k.table
  -- where its queues may lie is as the rules say
  pub placing : k.table.placing ≡ placing_in rules
  -- no region is added late where queues may lie anywhere
  pub in_time : is_some k.table.placing ≡ true → late ≡ false
  pub history_is : late ≡ false → history ≡ table_history rules past
  pub sq_count : length k.table.sq_regions ≡ k.nsq
  pub cq_count : length k.table.cq_regions ≡ k.ncq
  pub sq_number : length (sq_regions_of rules) ≡ k.nsq
  pub cq_number : length (cq_regions_of rules) ≡ k.ncq
  pub sq_slots : (r : ℕ) → slots_at (sq_regions_of rules) r ≡ (k.sq r).slots
  pub cq_slots : (c : ℕ) → slots_at (cq_regions_of rules) c ≡ (k.cq c).slots
  pub sq_regions_are : k.table.sq_regions ≡ sq_regions_of rules
  pub cq_regions_are : k.table.cq_regions ≡ cq_regions_of rules

-- ---- own statuses
-- the answer that a ready completion gives
abbrev pub answer_in : Ready → Answer
answer_in t = record { status = t.status; dw0 = t.dw0 }

-- a ready completion has the status and the Dword 0 of its place, where it is its answer
pub record HasItsStatus (rules : FrontRules) (past : Past) (t : Ready) : Type 0 where
  pub entry : Sqe
  pub is_there : entry_at past t.place.region t.place.index ≡ Some entry
  pub status : t.status ≡ own_status_by rules (answer_in t) past t.place.region t.place.index entry
  pub dw0 : t.dw0 ≡ own_dw0_by rules (answer_in t) past t.place.region t.place.index entry

-- but for that of an admin command that was passed on
abbrev pub HasOwnStatus : FrontRules → Past → Ready → Type 0
HasOwnStatus rules past t = t.passed ≡ false → HasItsStatus rules past t

-- a deletion that is pending is answered with success
abbrev pub deleted_answer : Answer
deleted_answer = record { status = success; dw0 = 0 }

pub record IsOwnDeletion (rules : FrontRules) (past : Past) (d : PendingDelete) : Type 0 where
  pub entry : Sqe
  pub is_there : entry_at past d.place.region d.place.index ≡ Some entry
  pub status : own_status_by rules deleted_answer past d.place.region d.place.index entry ≡ success
  pub dw0 : own_dw0_by rules deleted_answer past d.place.region d.place.index entry ≡ 0

pub record HoldsOwn (rules : FrontRules) (past : Past) (k : Content) : Type 0 where
  pub effects_whole : effects_since past ≡ made_last rules past
  pub own_statuses : (c : ℕ) → All (HasOwnStatus rules past) (k.cq c).ready
  pub own_deletion : (r : ℕ) (d : PendingDelete) → k.deletion r ≡ Some d → IsOwnDeletion rules past d

-- what a controller keeps holds at its log. Of statuses that is said where no region was added late
pub record Holds (rules : FrontRules) (late : Bool) (past : Past) (k : Content) : Type 0 where
  pub regions : (r : ℕ) → HoldsSq past r (k.sq r)
  pub ready : HoldsReady past k (hand_of k)
  pub hand : HoldsHand past k
  pub counts : HoldsCounts rules past k
  pub posts : HoldsPosts past k
  pub queues : HoldsQueues past k
  pub deletion : HoldsDeletion past k
  pub lives : HoldsLives past k
  pub arbitration : HoldsArbitration rules past k
  pub tabled : HoldsTable rules late past k
  pub own : late ≡ false → HoldsOwn rules past k

-- ---- a controller with no event
-- the queue of a region of a controller with no event: region 0 has the admin queue
abbrev pub first_queue : ℕ → Option Attachment
first_queue r = if r == 0 then Some (record { qid = 0; cq_region = 0 }) else None
