-- The candidate that an Abort command takes, commands that become ready, and what a controller keeps after a pick and after its admin command was applied (profile).
use Rattle.std.specs.Prelude.{◌≡◌, ℕ, ◌+◌, ◌≤◌, ◌==◌, true, false, if◌then◌else◌, List, [], ◌∷◌, length, drop, slice_get, Option, Some, None, is_some}
use Rattle.nvme_entry.specs.Status.{StatusCode, abort_requested, aborted_by_deletion}
use Rattle.nvme_arbiter.specs.History.{Picked}
use Rattle.nvme_arbiter.specs.Lawful.{IsLimitedPick}
use Rattle.nvme_arbiter.specs.Board.{BoardView, BoardStandsAt, queues_after}
use Rattle.nvme_arbiter.specs.Queues.{seen_of}
use Rattle.nvme_arbiter.specs.declared.pick.Pick.{Pick}
use Rattle.nvme_admin.specs.History.{TableHistory, EntryApplied}
use Rattle.nvme_admin.specs.Accepted.{queue_table, verdict_of}
use Rattle.nvme_admin.specs.QueueTable.{QueueTable}
use Rattle.nvme_admin.specs.declared.verdict.Verdict.{Verdict}
use Rattle.nvme_admin.specs.declared.verdict.Verdict.TheVariants.{OpenSq, OpenCq}
use Rattle.nvme_entry.specs.AdminCommand.{admin_command_of}
use Rattle.nvme_ctrl_log.specs.Making.{slots_asked}
use Rattle.nvme_log.specs.Rules.{FrontRules, Past, sq_regions_of, cq_regions_of}
use Rattle.nvme_log.specs.Queues.{Queue, admin_queue, open_sq}
use Rattle.nvme_log.specs.declared.place.Place.{Place}
use Rattle.nvme_log.specs.Answers.{Answer}
use Rattle.nvme_log.specs.Dispatches.{place_at}
use Rattle.nvme_log.specs.Histories.{arbitration_of}
use Rattle.nvme_ctrl_content.specs.Content.{Candidate, Ready, SqContent, Content, with_sq}
use Rattle.nvme_ctrl_content.specs.Standing.{FewQueues}

-- a pick, after which n places are in hand: picked, and neither ready nor posted
pub record CanPick (rules : FrontRules) (past : Past) (k : Content) (queue : Queue) (pick : Pick) (board : BoardView) : Type 0 where
  pub is_open : open_sq past pick.qid ≡ Some queue
  pub enough : pick.n ≤ length (k.sq queue.region).window
  pub lawful : IsLimitedPick rules.mechanism rules.start.settings (arbitration_of past) (seen_of k.board.queues) pick
  pub board_queues : board.queues ≡ queues_after k.board.queues pick
  pub board_stands : BoardStandsAt rules.mechanism rules.start.settings (Picked (seen_of k.board.queues) pick ∷ arbitration_of past) board

abbrev pub picked_sq : SqContent → ℕ → SqContent
picked_sq s n = record s { window = drop n s.window; unposted = s.unposted + n }

abbrev pub after_pick : Content → Queue → ℕ → BoardView → Content
after_pick k queue n board =
    record (with_sq k queue.region (picked_sq (k.sq queue.region) n)) { board = board; outstanding = k.outstanding + n }

abbrev pub verdict_at : FrontRules → TableHistory → Candidate → Verdict
verdict_at rules history candidate = verdict_of rules.start history candidate.entry

-- where queues may lie anywhere, the regions have that of the queue that a verdict opens, as its Create asks for it
abbrev pub HasNextRegion : FrontRules → QueueTable → Candidate → Verdict → Type 0
HasNextRegion rules t candidate (OpenSq qid region cqid class) = is_some t.placing ≡ true
    → slice_get (sq_regions_of rules) region ≡ Some (record { address = candidate.entry.prp1; slots = slots_asked (admin_command_of candidate.entry) })
HasNextRegion rules t candidate (OpenCq qid region) = is_some t.placing ≡ true
    → slice_get (cq_regions_of rules) region ≡ Some (record { address = candidate.entry.prp1; slots = slots_asked (admin_command_of candidate.entry) })
HasNextRegion rules t candidate verdict = Unit {0}

-- an admin pick: its command is applied to the table
pub record CanApply (rules : FrontRules) (past : Past) (k : Content) (history : TableHistory) (candidate : Candidate) (rest : List Candidate) (table : QueueTable) : Type 0 where
  pub oldest : (k.sq 0).window ≡ candidate ∷ rest
  pub table_is : table ≡ queue_table rules.start (EntryApplied candidate.entry ∷ history)
  pub few_queues : FewQueues table
  -- the rules have the region of a queue that is created anywhere
  pub placed : HasNextRegion rules k.table candidate (verdict_at rules history candidate)

-- the admin queue's oldest candidate is picked, and the table is changed
abbrev pub applied_to : Content → BoardView → QueueTable → Content
applied_to k board table = record (after_pick k admin_queue 1 board) { table = table }

-- the answer of a command of the admin queue
abbrev pub told : Candidate → StatusCode → ℕ → Ready
told c status dw0 = record { place = place_at 0 c.index; sqid = 0; cid = c.entry.cid; with_queue = false; passed = false; status = status; dw0 = dw0 }

-- a command that the device answered
abbrev pub done : (sqid : ℕ) → Place → (cid : ℕ) → Answer → Ready
done sqid p cid answer = record { place = p; sqid = sqid; cid = cid; with_queue = false; passed = p.region == 0; status = answer.status; dw0 = answer.dw0 }

-- a candidate of a queue that was aborted with the queue
abbrev pub aborted : (sqid r : ℕ) → Candidate → Ready
aborted sqid r c = record { place = place_at r c.index; sqid = sqid; cid = c.entry.cid; with_queue = true; passed = false; status = aborted_by_deletion; dw0 = 0 }

-- a candidate of a queue that an Abort command aborted
abbrev pub requested : (sqid r : ℕ) → Candidate → Ready
requested sqid r c = record { place = place_at r c.index; sqid = sqid; cid = c.entry.cid; with_queue = false; passed = false; status = abort_requested; dw0 = 0 }

-- the oldest candidate of a window with a command identifier
abbrev pub oldest_named : ℕ → List Candidate → Option Candidate
oldest_named cid [] = None
oldest_named cid (c ∷ rest) = if c.entry.cid == cid then Some c else oldest_named cid rest

-- the window without it
abbrev pub without_oldest : ℕ → List Candidate → List Candidate
without_oldest cid [] = []
without_oldest cid (c ∷ rest) = if c.entry.cid == cid then rest else c ∷ without_oldest cid rest
