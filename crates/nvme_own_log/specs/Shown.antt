-- What the notes of a controller show on the bus: doorbells, fetches and completions, as a log that any controller is judged by.
-- (Base Specification, Submission Queue y Tail Doorbell, Completion Queue y Head Doorbell, Submission Queue, Completion Queue, Phase Tag)
use Rattle.std.specs.Prelude.{ℕ, ◌-◌, ◌%◌, ◌==◌, true, if◌then◌else◌, [], ◌∷◌, length, Option, Some, None}
use Rattle.nvme_entry.specs.AdminCommand.{admin_command_of}
use Rattle.nvme_entry.specs.declared.submission.Sqe.{Sqe}
use Rattle.nvme_entry.specs.declared.completion.Cqe.{Cqe}
use Rattle.nvme_log.specs.declared.event.Event.TheVariants as event
use Rattle.nvme_log.specs.Rules.{FrontRules}
use Rattle.nvme_log.specs.Rules as front
use Rattle.nvme_log.specs.Queues.{qid_of_region}
use Rattle.nvme_log.specs.Completions.{posted_to}
use Rattle.nvme_ctrl_log.specs.Notes.{Notes, Logged, logged}
use Rattle.nvme_ctrl_log.specs.Notes as note
use Rattle.nvme_ctrl_log.specs.Doorbells.{sq_slots, cq_slots}
use Rattle.nvme_audit.specs.declared.event.Event.{Event}
use Rattle.nvme_audit.specs.declared.event.Event.TheVariants.{Tail, Head, Fetch, Post}
use Rattle.nvme_audit.specs.declared.event.Completion.{Completion}
use Rattle.nvme_audit.specs.declared.facts.Start.{Start}
use Rattle.nvme_audit.specs.Lives.{Past}

-- the identifier of the completion queue that a region was opened for (a region is used by one queue in its life: profile)
abbrev pub cqid_of_region : front.Past → ℕ → Option ℕ
cqid_of_region [] c = if c == 0 then Some 0 else None
cqid_of_region (event.OpenCq qid region ∷ past) c = if region == c then Some qid else cqid_of_region past c
cqid_of_region (e ∷ past) c = cqid_of_region past c

-- where the log starts: all is told, of admin queues of the sizes of region 0, which are zero based
abbrev pub start_of : FrontRules → Start
start_of rules = record { tells = record { tails = true; heads = true; posts = true }; asqs = sq_slots rules 0 - 1; acqs = cq_slots rules 0 - 1 }

-- a completion entry, of which all is told
abbrev pub completion_of : Cqe → Completion
completion_of cqe = record { sq = cqe.sqid; cid = cqe.cid; sqhd = Some cqe.sqhd; phase = Some cqe.phase; status = cqe.status; dw0 = Some cqe.dw0 }

-- an event of a region's queue, where a queue was opened on it
abbrev pub tail_of : Option ℕ → (slot : ℕ) → Past → Past
tail_of None slot log = log
tail_of (Some q) slot log = Tail q slot ∷ log

abbrev pub head_of : Option ℕ → (slot : ℕ) → Past → Past
head_of None slot log = log
head_of (Some q) slot log = Head q slot ∷ log

abbrev pub fetch_of : Option ℕ → (slot : ℕ) → Sqe → Past → Past
fetch_of None slot entry log = log
fetch_of (Some q) slot entry log = Fetch q (Some slot) entry.cid (admin_command_of entry) ∷ log

abbrev pub post_of : Option ℕ → (slot : ℕ) → Cqe → Past → Past
post_of None slot cqe log = log
post_of (Some q) slot cqe log = Post q (Some slot) (completion_of cqe) ∷ log

-- what the notes show. The nth fetch from a ring, and the nth post into one, is of slot n modulo its size. What the controller does inside shows nothing
abbrev pub shown : FrontRules → Notes → Past
shown rules [] = []
shown rules (note.Tail r slot ∷ notes) = tail_of (qid_of_region (logged notes) r) slot (shown rules notes)
shown rules (note.Head c slot ∷ notes) = head_of (cqid_of_region (logged notes) c) slot (shown rules notes)
shown rules (Logged (event.Fetch r i entry) ∷ notes) = fetch_of (qid_of_region (logged notes) r) (i % sq_slots rules r) entry (shown rules notes)
shown rules (Logged (event.Post c r i cqe) ∷ notes) =
    post_of (cqid_of_region (logged notes) c) (length (posted_to (logged notes) c) % cq_slots rules c) cqe (shown rules notes)
shown rules (n ∷ notes) = shown rules notes

-- something holds of each event of a log, with the events before it
abbrev pub EachShown : (Past → Event → Type 0) → Past → Type 0
EachShown P [] = Unit {0}
EachShown P (e ∷ log) = P log e × EachShown P log
