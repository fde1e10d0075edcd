-- Posts, and the own completion of a place. (Base Specification, Completion Queue Entry)
use Rattle.std.specs.Prelude.{◌≡◌, ℕ, ◌+◌, ◌/◌, ◌%◌, ◌==◌, ◌&&◌, ◌||◌, Bool, false, not, if◌then◌else◌, List, [], ◌∷◌, ◌++◌, length, filter, Some, slice_get, sum_by}
use Rattle.nvme_entry.specs.Status.{StatusCode, abort_requested, aborted_by_deletion}
use Rattle.nvme_entry.specs.declared.submission.Sqe.{Sqe}
use Rattle.nvme_entry.specs.declared.completion.Cqe.{Cqe}
use Rattle.nvme_admin.specs.History.{TableHistory}
use Rattle.nvme_admin.specs.Accepted.{status_of, dw0_of, verdict_of}
use Rattle.nvme_log.specs.declared.event.Event.TheVariants.{Pick, Post}
use Rattle.nvme_log.specs.Rules.{Past, FrontRules, upto, sq_regions_of, cq_regions_of, slots_at}
use Rattle.nvme_log.specs.Queues.{qid_of_region, cq_region_of}
use Rattle.nvme_log.specs.Places.{fetched, waiting, places, entry_at, fate_of, is_picked, is_aborted, is_waiting}
use Rattle.nvme_log.specs.Histories.{table_history}
use Rattle.nvme_log.specs.Answers.{Answer, outcome_answer}
use Rattle.nvme_log.specs.Aborts.{is_index, is_abort_requested, has_aborted, told_dw0}

-- a completion of the place was posted
abbrev pub is_posted : Past → ℕ → ℕ → Bool
is_posted [] r i = false
is_posted (Post cq_region region index cqe ∷ past) r i = (region == r && index == i) || is_posted past r i
is_posted (e ∷ past) r i = is_posted past r i

-- how many completions of a place were posted
abbrev pub posts_of : Past → ℕ → ℕ → ℕ
posts_of [] r i = 0
posts_of (Post cq_region region index cqe ∷ past) r i = if region == r && index == i then posts_of past r i + 1 else posts_of past r i
posts_of (e ∷ past) r i = posts_of past r i

-- the completions posted to a completion region, in order
abbrev pub posted_to : Past → ℕ → List Cqe
posted_to [] c = []
posted_to (Post cq_region region index cqe ∷ past) c = if cq_region == c then posted_to past c ++ cqe ∷ [] else posted_to past c
posted_to (e ∷ past) c = posted_to past c

-- a place was picked, or an Abort command aborted it
abbrev pub takes_place : Past → ℕ → ℕ → Bool
takes_place past r i = is_picked (fate_of past r i) || is_abort_requested past r i

-- how many places that were picked, or that an Abort command aborted, have no completion posted
abbrev pub outstanding : FrontRules → Past → ℕ
outstanding rules past =
    sum_by (λ (r : ℕ). length (filter (λ (i : ℕ). takes_place past r i && not (is_posted past r i)) (places past r)))
    (upto (length (sq_regions_of rules)))

-- the table history before the command of an admin place: that at its pick
abbrev pub table_before : FrontRules → Past → ℕ → TableHistory
table_before rules [] i = rules.regions
table_before rules (Pick seen pick ∷ past) i = if pick.qid == 0 && is_index i (slice_get (waiting past 0) 0) then table_history rules past else table_before rules past i
table_before rules (e ∷ past) i = table_before rules past i

-- the status of an aborted place: by an Abort command, else with its queue
abbrev pub aborted_status : Past → ℕ → ℕ → StatusCode
aborted_status past r i = if is_abort_requested past r i then abort_requested else aborted_by_deletion

-- the status of a place: that of an aborted one, else that of the admin checks, else that of the answer to an I/O command
abbrev pub own_status_by : FrontRules → Answer → Past → ℕ → ℕ → Sqe → StatusCode
own_status_by rules answer past r i entry =
    if is_aborted past r i then aborted_status past r i
    else (if r == 0 then status_of rules.start (table_before rules past i) entry else answer.status)

-- where the answer is the outcome of the command
abbrev pub own_status : FrontRules → Past → ℕ → ℕ → Sqe → StatusCode
own_status rules past r i entry = own_status_by rules (outcome_answer rules entry) past r i entry

-- Dword 0 of the command of an admin place
abbrev pub admin_dw0 : FrontRules → Past → ℕ → Sqe → ℕ
admin_dw0 rules past i entry =
    told_dw0 (has_aborted past i) (verdict_of rules.start (table_before rules past i) entry) (dw0_of rules.start (table_before rules past i) entry)

-- Dword 0 of a place: 0 of an aborted one, else that of an admin command, else that of the answer to an I/O command
abbrev pub own_dw0_by : FrontRules → Answer → Past → ℕ → ℕ → Sqe → ℕ
own_dw0_by rules answer past r i entry =
    if is_aborted past r i then 0
    else (if r == 0 then admin_dw0 rules past i entry else answer.dw0)

-- where the answer is the outcome of the command, with Dword 0 as 0
abbrev pub own_dw0 : FrontRules → Past → ℕ → ℕ → Sqe → ℕ
own_dw0 rules past r i entry = own_dw0_by rules (outcome_answer rules entry) past r i entry

-- the phase tag of the next completion in a ring of this many slots, after n completions: it turns at each pass, and is 1 at first
-- (Base Specification, Phase Tag)
abbrev pub phase_after : ℕ → ℕ → Bool
phase_after n slots = n / slots % 2 == 0

-- the completion of a place, where it is posted to a completion region after these events, and an I/O command with this entry would be
-- answered so
pub record IsOwnBy (rules : FrontRules) (answer : Sqe → Answer) (past : Past) (c r i : ℕ) (cqe : Cqe) : Type 0 where
  pub entry : Sqe
  pub is_there : entry_at past r i ≡ Some entry
  pub region : cq_region_of past r ≡ Some c
  pub sqid : qid_of_region past r ≡ Some cqe.sqid
  pub cid : cqe.cid ≡ entry.cid
  pub status : cqe.status ≡ own_status_by rules (answer entry) past r i entry
  pub dw0 : cqe.dw0 ≡ own_dw0_by rules (answer entry) past r i entry
  -- the number of commands fetched, as an index of the ring (profile)
  pub sqhd : cqe.sqhd ≡ length (fetched past r) % slots_at (sq_regions_of rules) r
  pub phase : cqe.phase ≡ phase_after (length (posted_to past c)) (slots_at (cq_regions_of rules) c)

-- where the answer is the outcome of the command
abbrev pub IsOwn : FrontRules → Past → (c r i : ℕ) → Cqe → Type 0
IsOwn rules past c r i cqe = IsOwnBy rules (outcome_answer rules) past c r i cqe

-- how many places of a region were picked or aborted and have no post
abbrev pub unposted_of : Past → ℕ → ℕ
unposted_of past r = length (filter (λ (i : ℕ). not (is_waiting (fate_of past r i)) && not (is_posted past r i)) (places past r))
