-- The next pick, what is noted of it, and the deletions that can be finished. (Base Specification, Command Arbitration, Admin Command Set)
use Rattle.std.specs.Prelude.{◌≡◌, ◌≢◌, ℕ, ◌<◌, Bool, true, false, List, [], ◌∷◌, length, Option, Some, None}
use Rattle.nvme_arbiter.specs.Lawful.{lawful_pick, limited_pick}
use Rattle.nvme_arbiter.specs.declared.pick.Pick.{Pick}
use Rattle.nvme_admin.specs.Checks.{is_success}
use Rattle.nvme_admin.specs.declared.verdict.Verdict.{Verdict}
use Rattle.nvme_admin.specs.declared.verdict.Verdict.TheVariants as verdict
use Rattle.nvme_admin.specs.declared.effect.Effect.{Effect}
use Rattle.nvme_admin.specs.declared.effect.Effect.TheVariants.{OpenCq, OpenSq, BeginDelete, CloseCq}
use Rattle.nvme_entry.specs.declared.admin.AdminCommand.{AdminCommand}
use Rattle.nvme_entry.specs.declared.admin.AdminCommand.TheVariants as command
use Rattle.nvme_log.specs.declared.event.Event.{Event}
use Rattle.nvme_log.specs.declared.event.Event.TheVariants as event
use Rattle.nvme_log.specs.Rules.{FrontRules, Past}
use Rattle.nvme_log.specs.Queues.{Queue, open_sq, open_cq, qid_of_region}
use Rattle.nvme_log.specs.Histories.{arbitration_of}
use Rattle.nvme_log.specs.Answers.{Answer}
use Rattle.nvme_ctrl_log.specs.Tags.{handed, taken}
use Rattle.nvme_log.specs.Completions.{unposted_of}
use Rattle.nvme_ctrl_log.specs.Deletions.{deleting}
use Rattle.nvme_ctrl_log.specs.Notes.{Notes, Logged, Answered, logged}
use Rattle.nvme_ctrl_log.specs.Observation.{observed_of}

-- the next pick is the lawful one, on exactly what arbitration sees
abbrev pub IsNextPick : FrontRules → Notes → Option Pick → Type 0
IsNextPick rules notes pick = pick ≡ lawful_pick rules.mechanism rules.start.settings (arbitration_of (logged notes)) (observed_of notes)

-- so where there is room for so many commands
abbrev pub IsNextWithin : FrontRules → Notes → (room : ℕ) → Option Pick → Type 0
IsNextWithin rules notes room pick = pick ≡ limited_pick room rules.mechanism rules.start.settings (arbitration_of (logged notes)) (observed_of notes)

-- events that are noted one after another
abbrev pub with_logged : List Event → Notes → Notes
with_logged [] notes = notes
with_logged (e ∷ rest) notes = with_logged rest (Logged e ∷ notes)

-- the notes after a pick, on exactly what arbitration sees
abbrev pub picked_notes : Notes → Pick → Notes
picked_notes notes pick = Logged (event.Pick (observed_of notes) pick) ∷ notes

-- with the answer of an admin command, if it is answered
abbrev pub with_answer : ℕ → Option Answer → Notes → Notes
with_answer i None notes = notes
with_answer i (Some answer) notes = Answered 0 i answer ∷ notes

-- the submission queue of an identifier is open on a region
pub record IsSqOn (past : Past) (qid region : ℕ) : Type 0 where
  pub queue : Queue
  pub is_open : open_sq past qid ≡ Some queue
  pub on : queue.region ≡ region

-- the region in an effect is that of the queue which was open before: of a queue whose deletion begins, of a completion queue that is closed, and of the
-- completion queue of a new submission queue (Delete I/O Submission Queue, Delete I/O Completion Queue, Create I/O Submission Queue; regions: profile)
abbrev pub NamesQueues : Past → Effect → Type 0
NamesQueues past (BeginDelete qid region) = IsSqOn past qid region
NamesQueues past (CloseCq qid region) = open_cq past qid ≡ Some region
NamesQueues past (OpenSq qid region cqid cq_region class) = open_cq past cqid ≡ Some cq_region
NamesQueues past effect = Unit {0}

-- the number of a region is the identifier of its queue. (Identifiers are at most 64.)
abbrev pub IsIdentifier : (qid region : ℕ) → Type 0
IsIdentifier qid region = qid < 256 → region ≡ qid

-- where queues may lie anywhere, the regions in an effect have the numbers of their queues' identifiers (profile)
abbrev pub NamesIdentifiers : Effect → Type 0
NamesIdentifiers (OpenSq qid region cqid cq_region class) = IsIdentifier qid region × IsIdentifier cqid cq_region
NamesIdentifiers (OpenCq qid region) = IsIdentifier qid region
NamesIdentifiers (BeginDelete qid region) = IsIdentifier qid region
NamesIdentifiers (CloseCq qid region) = IsIdentifier qid region
NamesIdentifiers effect = Unit {0}

-- a command that was accepted has a verdict of its own, also where it made nothing (Delete I/O Submission Queue, Abort)
abbrev pub has_own_verdict : AdminCommand → Bool
has_own_verdict (command.DeleteSq qid) = true
has_own_verdict (command.Abort sqid cid) = true
has_own_verdict c = false

-- a verdict is of a command: the deletion of a submission queue begins by its Delete, a command is aborted by its Abort, and such commands end with no
-- other verdict of success (Delete I/O Submission Queue, Abort)
abbrev pub IsVerdictOf : AdminCommand → Verdict → Type 0
IsVerdictOf c (verdict.BeginDelete qid) = c ≡ command.DeleteSq qid
IsVerdictOf c (verdict.Abort sqid cid) = c ≡ command.Abort sqid cid
IsVerdictOf c (verdict.Done status dw0) = is_success status ≡ true → has_own_verdict c ≡ false
IsVerdictOf c v = Unit {0}

-- commands are picked that the device hasn't taken
abbrev pub IsBusy : Notes → Type 0
IsBusy notes = length (taken notes) < length (handed notes)

-- there is a next pick, but the device has room for no command
pub record LacksRoom (rules : FrontRules) (notes : Notes) (room : ℕ) : Type 0 where
  pub pick : Pick
  pub next : IsNextPick rules notes (Some pick)
  pub none : room ≡ 0

-- the deletion of the queue of an identifier can be finished: it began and isn't finished, and each command of the queue has its completion posted
pub record IsFinishableAt (notes : Notes) (qid : ℕ) : Type 0 where
  pub region : ℕ
  pub index : ℕ
  pub deletes : deleting (logged notes) region ≡ Some index
  pub queue : qid_of_region (logged notes) region ≡ Some qid
  pub all_posted : unposted_of (logged notes) region ≡ 0

-- no deletion can be finished: of each queue that is being deleted a command has no completion posted yet
abbrev pub NoneFinishable : Notes → Type 0
NoneFinishable notes = (region index : ℕ) → deleting (logged notes) region ≡ Some index → unposted_of (logged notes) region ≢ 0
