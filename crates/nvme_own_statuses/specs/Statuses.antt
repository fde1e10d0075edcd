-- What the judge asks of the status of a completion, part by part, and of the device that answers commands.
-- (Base Specification, Command Aborted due to SQ Deletion, Command Abort Requested, Abort, Command Specific Status Values)
use Rattle.std.specs.Prelude.{◌≡◌, ℕ, ◌==◌, ◌&&◌, true, false, not, Bool, Some}
use Rattle.nvme_entry.specs.Status.{StatusCode}
use Rattle.nvme_entry.specs.AdminCommand.{admin_command_of}
use Rattle.nvme_entry.specs.declared.submission.Sqe.{Sqe}
use Rattle.nvme_entry.specs.declared.admin.AdminCommand.{AdminCommand}
use Rattle.nvme_entry.specs.declared.admin.AdminCommand.TheVariants.{DeleteSq, CreateSq, DeleteCq, CreateCq, Abort, SetFeatures}
use Rattle.nvme_log.specs.declared.event.Event.TheVariants as event
use Rattle.nvme_log.specs.Rules.{FrontRules}
use Rattle.nvme_log.specs.Queues.{qid_of_region}
use Rattle.nvme_log.specs.Places.{entry_at, fate_of, is_waiting, is_aborted}
use Rattle.nvme_log.specs.Completions.{is_posted}
use Rattle.nvme_ctrl_log.specs.Notes.{Notes, Note, Logged, EachNote, logged}
use Rattle.nvme_ctrl_log.specs.Tags.{is_passed, is_of_device}
use Rattle.nvme_audit.specs.declared.event.Event.{Event}
use Rattle.nvme_audit.specs.declared.event.Event.TheVariants.{Post}
use Rattle.nvme_audit.specs.declared.event.Completion.{Completion}
use Rattle.nvme_audit.specs.declared.facts.Start.{Start}
use Rattle.nvme_audit.specs.declared.verdict.Verdict.TheVariants.{Kept}
use Rattle.nvme_audit.specs.Lives.{Past, is_success}
use Rattle.nvme_audit.specs.Aborts as aborts
use Rattle.nvme_audit.specs.Aborts.{says_aborted}
use Rattle.nvme_audit.specs.Turns.{sq_named, cq_named, cid_named}
use Rattle.nvme_audit.specs.Facts.{sq_after, cq_after, admin_after, outstanding}
use Rattle.nvme_audit.specs.Answers.{mark_in, answered_in, is_foreign, is_undoomed, is_unnamed, is_not_as_told, is_untrue_abort, status_rules, answer_verdict}
use Rattle.nvme_own_log.specs.Shown.{cqid_of_region, completion_of, shown, EachShown}

-- ---- what is asked of a completion into a completion queue, after a log
-- Command Aborted due to SQ Deletion: a Delete named its queue
abbrev pub IsSqdelAsked : Start → Past → ℕ → Completion → Type 0
IsSqdelAsked start past cq completion = is_undoomed (sq_after start past completion.sq) completion.status ≡ false

-- Command Abort Requested: an Abort named its command
abbrev pub IsAbortAsked : Start → Past → ℕ → Completion → Type 0
IsAbortAsked start past cq completion = is_unnamed (outstanding past completion.sq completion.cid) completion.status ≡ false

-- a command that an Abort says was aborted ends so
abbrev pub IsAsTold : Start → Past → ℕ → Completion → Type 0
IsAsTold start past cq completion = is_not_as_told (outstanding past completion.sq completion.cid) completion.status ≡ false

-- and there is one, where an Abort says so
abbrev pub IsTrueAbort : Start → Past → ℕ → Completion → Type 0
IsTrueAbort start past cq completion =
    is_untrue_abort
    start.tells
    (sq_after start past (sq_named (answered_in (outstanding past completion.sq completion.cid) completion)))
    (outstanding past (sq_named (answered_in (outstanding past completion.sq completion.cid) completion)) (cid_named (answered_in (outstanding past completion.sq completion.cid) completion)))
    (mark_in (outstanding past completion.sq completion.cid))
    completion
    (answered_in (outstanding past completion.sq completion.cid) completion)
    ≡ false

-- a status of its command
abbrev pub IsOfCommand : Start → Past → ℕ → Completion → Type 0
IsOfCommand start past cq completion = is_foreign (answered_in (outstanding past completion.sq completion.cid) completion) completion.status ≡ false

-- a status that is true of some moment since the fetch of its command, where that is of a kind
abbrev pub IsTrueOf : (AdminCommand → Bool) → Start → Past → ℕ → Completion → Type 0
IsTrueOf kind start past cq completion =
    kind (answered_in (outstanding past completion.sq completion.cid) completion) ≡ true
    → status_rules
    (sq_after start past (sq_named (answered_in (outstanding past completion.sq completion.cid) completion)))
    (cq_after start past (cq_named (answered_in (outstanding past completion.sq completion.cid) completion)))
    (admin_after past)
    (mark_in (outstanding past completion.sq completion.cid))
    completion
    (answered_in (outstanding past completion.sq completion.cid) completion)
    ≡ Kept

-- all of that: the status breaks no rule
abbrev pub IsAnswerKept : Start → Past → ℕ → Completion → Type 0
IsAnswerKept start past cq completion =
    answer_verdict
    start.tells
    (cq_after start past cq)
    (cq_after start past (cq_named (answered_in (outstanding past completion.sq completion.cid) completion)))
    (sq_after start past completion.sq)
    (sq_after start past (sq_named (answered_in (outstanding past completion.sq completion.cid) completion)))
    (admin_after past)
    (outstanding past completion.sq completion.cid)
    (outstanding past (sq_named (answered_in (outstanding past completion.sq completion.cid) completion)) (cid_named (answered_in (outstanding past completion.sq completion.cid) completion)))
    completion
    ≡ Kept

abbrev pub is_set_features : AdminCommand → Bool
is_set_features (SetFeatures fid sv cdw11) = true
is_set_features command = false

abbrev pub is_delete_sq : AdminCommand → Bool
is_delete_sq (DeleteSq qid) = true
is_delete_sq command = false

abbrev pub is_create_sq : AdminCommand → Bool
is_create_sq (CreateSq qid qsize prp1 cqid qprio pc) = true
is_create_sq command = false

abbrev pub is_delete_cq : AdminCommand → Bool
is_delete_cq (DeleteCq qid) = true
is_delete_cq command = false

abbrev pub is_create_cq : AdminCommand → Bool
is_create_cq (CreateCq qid qsize prp1 pc) = true
is_create_cq command = false

-- ---- completions
-- something holds of a completion
abbrev pub OfPost : (Past → ℕ → Completion → Type 0) → Past → Event → Type 0
OfPost P past (Post cq slot completion) = P past cq completion
OfPost P past e = Unit {0}

-- and of each of a log
abbrev pub EachPost : (Past → ℕ → Completion → Type 0) → Past → Type 0
EachPost P log = EachShown (OfPost P) log

-- ---- the device
-- the device gave the status of a command's completion: it answered the command, which no abort took
abbrev pub is_given : Notes → (r i : ℕ) → Bool
is_given notes r i = is_of_device notes r i && not (is_aborted (logged notes) r i)

-- something holds of a completion as it shows, where the device gave its status
abbrev pub OfGiven : FrontRules → (Past → ℕ → Completion → Type 0) → Notes → Note → Type 0
OfGiven rules P notes (Logged (event.Post c r i cqe)) = is_given notes r i ≡ true → (q : ℕ) → cqid_of_region (logged notes) c ≡ Some q → P (shown rules notes) q (completion_of cqe)
OfGiven rules P notes note = Unit {0}

-- the device keeps what is asked of completions
abbrev pub DeviceKeeps : FrontRules → (Past → ℕ → Completion → Type 0) → Notes → Type 0
DeviceKeeps rules P notes = EachNote (OfGiven rules P) notes

-- a status says neither that an Abort command aborted its command, nor that the deletion of its queue did (Command Abort Requested, Command Aborted due to
-- SQ Deletion)
pub record SaysNoAbort (status : StatusCode) : Type 0 where
  pub unrequested : aborts.is_aborted status ≡ false
  pub undeleted : (status.sct == 0 && status.sc == 0x08) ≡ false

abbrev pub IsUnaborted : Past → ℕ → Completion → Type 0
IsUnaborted past cq completion = SaysNoAbort completion.status

-- the device has the command of a place: it was picked for it, or passed on, and no abort took it
abbrev pub is_had : Notes → (r i : ℕ) → Bool
is_had notes r i = is_given notes r i && not (is_waiting (fate_of (logged notes) r i))

-- the device has each outstanding command of a queue with an identifier
abbrev pub HasNamed : Notes → (sqid cid : ℕ) → Type 0
HasNamed notes sqid cid =
    (r i : ℕ) (entry : Sqe) → qid_of_region (logged notes) r ≡ Some sqid → entry_at (logged notes) r i ≡ Some entry → entry.cid ≡ cid → is_posted (logged notes) r i ≡ false
    → is_had notes r i ≡ true

-- where the device answers an Abort that a command was aborted, that is one which it has
abbrev pub TakesOwn : Notes → Note → Type 0
TakesOwn notes (Logged (event.Post c r i cqe)) =
    r ≡ 0 → is_passed notes i ≡ true → (entry : Sqe) (sqid cid : ℕ) → entry_at (logged notes) 0 i ≡ Some entry → admin_command_of entry ≡ Abort sqid cid
    → is_success cqe.status ≡ true → says_aborted (Some cqe.dw0) ≡ true → HasNamed notes sqid cid
TakesOwn notes note = Unit {0}

abbrev pub DeviceTakesOwn : Notes → Type 0
DeviceTakesOwn notes = EachNote TakesOwn notes
