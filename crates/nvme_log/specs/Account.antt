-- A log accounts for its side of every ring: what was submitted, and what was collected.
-- (Base Specification, Submission Queue and Completion Queue, Command Arbitration; windows, and one queue a region: profile)
use Rattle.std.specs.Prelude.{Bool, if◌then◌else◌, ◌≡◌, ℕ, ◌==◌, ◌&&◌, nat_le, true, false, List, [], ◌∷◌, length, Option, Some, None, slice_get, is_some}
use Rattle.std.specs.List.{list_all}
use mathlib.Core.List.{IsPrefix}
use Rattle.nvme_entry.specs.declared.submission.Sqe.{Sqe}
use Rattle.nvme_entry.specs.declared.completion.Cqe.{Cqe}
use Rattle.nvme_arbiter.specs.Lawful.{IsLawfulRun}
use Rattle.nvme_log.specs.declared.event.Event.{Event}
use Rattle.nvme_log.specs.declared.event.Event.TheVariants.{Fetch, Pick, Closing, Abort, Post, ClosedSq}
use Rattle.nvme_log.specs.Limits.{max_outstanding}
use Rattle.nvme_log.specs.Rules.{Past, FrontRules, Each, window_at}
use Rattle.nvme_log.specs.Queues.{open_sq, is_open_region, pending, is_closed_region}
use Rattle.nvme_log.specs.Places.{fetched, waiting, places, fate_of, is_waiting, observation_of}
use Rattle.nvme_log.specs.Histories.{arbitration_of}
use Rattle.nvme_log.specs.Aborts.{is_index}
use Rattle.nvme_log.specs.Answers.{Executor, by_outcome}
use Rattle.nvme_log.specs.Completions.{is_posted, posted_to, outstanding, IsOwnBy}
use Rattle.nvme_log.specs.Dispatches.{place_at}
use Rattle.nvme_log.specs.Effects.{made_last, effects_since, EffectsAtOnce}

-- indexes count each region's fetches from 0 (profile)
abbrev pub IndexCounts : Past → Event → Type 0
IndexCounts past (Fetch r i entry) = i ≡ length (fetched past r)
IndexCounts past e = Unit {0}

-- a queue is served only while it is open, and no window holds more candidates than it may
-- (Create and Delete I/O Submission Queue; the window: profile)
abbrev pub ServedWhileOpen : FrontRules → Past → Event → Type 0
ServedWhileOpen rules past (Fetch r i entry) =
    (is_open_region past r ≡ true) × (nat_le (length (waiting (Fetch r i entry ∷ past) r)) (window_at rules r) ≡ true)
ServedWhileOpen rules past (Pick seen pick) = is_some (open_sq past pick.qid) ≡ true
ServedWhileOpen rules past e = Unit {0}

-- arbitration sees exactly the open queues and their candidates (Command Arbitration)
abbrev pub Observed : Past → Event → Type 0
Observed past (Pick seen pick) = seen ≡ observation_of past
Observed past e = Unit {0}

-- the place of the latest picked admin command
abbrev pub latest_admin_place : Past → Option ℕ
latest_admin_place [] = None
latest_admin_place (Pick seen pick ∷ past) = if pick.qid == 0 then slice_get (waiting past 0) 0 else latest_admin_place past
latest_admin_place (e ∷ past) = latest_admin_place past

-- the admin place whose command began the pending deletion
abbrev pub deleting_place : Past → Option ℕ
deleting_place [] = None
deleting_place (Closing qid region ∷ past) = latest_admin_place past
deleting_place (ClosedSq qid region ∷ past) = None
deleting_place (e ∷ past) = deleting_place past

-- a deletion is finished once, when all of its queue's places are posted; until then nothing is fetched or picked, and the deletion isn't
-- answered; after it nothing more happens to its region (Delete I/O Submission Queue; the waiting: profile)
abbrev pub Deletes : Past → Event → Type 0
Deletes past (Fetch r i entry) = (pending past ≡ None) × (is_closed_region past r ≡ false)
Deletes past (Pick seen pick) = pending past ≡ None
Deletes past (Abort r i) = is_closed_region past r ≡ false
Deletes past (Post c r i cqe) = (is_closed_region past r ≡ false) × ((r == 0 && is_index i (deleting_place past)) ≡ false)
Deletes past (ClosedSq qid r) =
    (pending past ≡ Some (record { qid = qid; region = r })) × (list_all (λ (i : ℕ). is_posted past r i) (places past r) ≡ true)
Deletes past e = Unit {0}

-- a place has at most one completion, its own, after it was picked or aborted (Completion Queue Entry)
abbrev pub PostsOwnBy : FrontRules → Executor → Past → Event → Type 0
PostsOwnBy rules executor past (Post c r i cqe) =
    (is_posted past r i ≡ false) × (is_waiting (fate_of past r i) ≡ false) × IsOwnBy rules (executor (place_at r i)) past c r i cqe
PostsOwnBy rules executor past e = Unit {0}

-- where commands are answered by their outcomes
abbrev pub PostsOwn : FrontRules → Past → Event → Type 0
PostsOwn rules past e = PostsOwnBy rules (by_outcome rules) past e

-- a pick and an abort leave no more places outstanding than there may be (profile)
abbrev pub LeavesPlaces : FrontRules → Past → Event → Type 0
LeavesPlaces rules past (Pick seen pick) = nat_le (outstanding rules (Pick seen pick ∷ past)) max_outstanding ≡ true
LeavesPlaces rules past (Abort r i) = nat_le (outstanding rules (Abort r i ∷ past)) max_outstanding ≡ true
LeavesPlaces rules past e = Unit {0}

-- the account of what was sent to each submission region, a log, and what was collected from each completion region, where an executor
-- answers the picked I/O commands
pub record IsAccountBy (rules : FrontRules) (executor : Executor) (sent : ℕ → List Sqe) (past : Past) (collected : ℕ → List Cqe) : Type 0 where
  -- what was fetched is what was sent first, in order
  pub fetched_in_order : (r : ℕ) → IsPrefix (fetched past r) (sent r)
  pub indexes_count : Each IndexCounts past
  pub served_while_open : Each (ServedWhileOpen rules) past
  pub observed : Each Observed past
  -- what an admin command makes stands right after its pick, and nowhere else
  pub effects_at_once : Each (EffectsAtOnce rules) past
  pub effects_whole : effects_since past ≡ made_last rules past
  pub deletes : Each Deletes past
  pub posts_own : Each (PostsOwnBy rules executor) past
  pub leaves_places : Each (LeavesPlaces rules) past
  -- the picks are a lawful run of the configured arbitration
  pub lawful : IsLawfulRun rules.mechanism rules.start.settings (arbitration_of past)
  -- what was collected is what was posted first, in order
  pub collected_in_order : (c : ℕ) → IsPrefix (collected c) (posted_to past c)

-- the account of a front that executes commands by itself: they are answered by their outcomes
abbrev pub IsAccount : FrontRules → (ℕ → List Sqe) → Past → (ℕ → List Cqe) → Type 0
IsAccount rules sent past collected = IsAccountBy rules (by_outcome rules) sent past collected

-- a region's queue is open, so all that its host has is done
pub record IsDone (past : Past) (script sent : List Sqe) (r : ℕ) : Type 0 where
  pub all_fetched : fetched past r ≡ sent
  pub all_sent : sent ≡ script

-- the whole account of the scripts of a workload: everything that was fetched is answered, and what was answered is collected.
-- `loaded` says that the hosts submitted their whole scripts before the first turn (profile)
pub record IsWholeAccountBy (rules : FrontRules) (executor : Executor) (loaded : Bool) (scripts sent : ℕ → List Sqe) (past : Past) (collected : ℕ → List Cqe) : Type 0 where
  pub account : IsAccountBy rules executor sent past collected
  pub all_posted : (r : ℕ) → list_all (λ (i : ℕ). is_posted past r i) (places past r) ≡ true
  pub none_waits : (r : ℕ) → waiting past r ≡ []
  pub none_pending : pending past ≡ None
  pub all_collected : (c : ℕ) → collected c ≡ posted_to past c
  pub open_done : (r : ℕ) → is_open_region past r ≡ true → IsDone past (scripts r) (sent r) r
  pub sent_in_order : (r : ℕ) → IsPrefix (sent r) (scripts r)
  pub loaded_whole : loaded ≡ true → (r : ℕ) → sent r ≡ scripts r

-- that of a front that executes commands by itself
abbrev pub IsWholeAccount : FrontRules → Bool → (scripts sent : ℕ → List Sqe) → Past → (ℕ → List Cqe) → Type 0
IsWholeAccount rules loaded scripts sent past collected = IsWholeAccountBy rules (by_outcome rules) loaded scripts sent past collected

-- no candidate waits, every fetched place has its completion posted, and no deletion is pending
pub record IsClear (past : Past) : Type 0 where
  pub none_waits : (r : ℕ) → waiting past r ≡ []
  pub all_posted : (r : ℕ) → list_all (λ (i : ℕ). is_posted past r i) (places past r) ≡ true
  pub none_pending : pending past ≡ None
