-- What the controller owes by the status of a completion: it is true of some moment between the fetch of the command and its
-- completion. Of two faults either may be told. (Base Specification, Create and Delete I/O Submission Queue, Create and Delete I/O
-- Completion Queue, Command Specific Status Values, Command Aborted due to SQ Deletion, Number of Queues, Abort, Command Abort
-- Requested; all by memory)
use Rattle.std.specs.Prelude.{ℕ, ◌+◌, ◌/◌, ◌%◌, ◌==◌, ◌&&◌, ◌||◌, nat_le, nat_lt, Bool, true, false, not, is_none, is_some, Option, Some, None, if◌then◌else◌}
use Rattle.nvme_entry.specs.Status.{StatusCode}
use Rattle.nvme_entry.specs.declared.admin.AdminCommand.{AdminCommand}
use Rattle.nvme_entry.specs.declared.admin.AdminCommand.TheVariants.{DeleteSq, CreateSq, DeleteCq, CreateCq, Abort, SetFeatures, GetFeatures, Other}
use Rattle.nvme_audit.specs.declared.event.Completion.{Completion}
use Rattle.nvme_audit.specs.declared.facts.Tells.{Tells}
use Rattle.nvme_audit.specs.declared.facts.Sq.{Sq}
use Rattle.nvme_audit.specs.declared.facts.Cq.{Cq}
use Rattle.nvme_audit.specs.declared.facts.Admin.{Admin}
use Rattle.nvme_audit.specs.declared.facts.Command.{Command}
use Rattle.nvme_audit.specs.declared.verdict.Verdict.{Verdict}
use Rattle.nvme_audit.specs.declared.verdict.Verdict.TheVariants.{Kept, Broken}
use Rattle.nvme_audit.specs.declared.verdict.Rule.TheVariants as rule
use Rattle.nvme_audit.specs.Lives.{is_success}
use Rattle.nvme_audit.specs.Turns.{number_of_queues, answered_by}
use Rattle.nvme_audit.specs.Aborts.{is_abort, is_aborted, told_of}

-- ---- statuses of other commands (Command Specific Status Values; C0h to FFh are the vendor's)
abbrev pub has_specific : AdminCommand → ℕ → Bool
has_specific (DeleteSq qid) sc = sc == 0x01
has_specific (CreateSq qid qsize prp1 cqid qprio pc) sc = nat_le sc 0x02
has_specific (DeleteCq qid) sc = (sc == 0x01) || (sc == 0x0c)
has_specific (CreateCq qid qsize prp1 pc) sc = (sc == 0x01) || (sc == 0x02) || (sc == 0x08)
has_specific (Abort sqid cid) sc = sc == 0x03
has_specific (SetFeatures fid sv cdw11) sc = true
has_specific (GetFeatures fid) sc = true
has_specific Other sc = true

abbrev pub is_foreign : AdminCommand → StatusCode → Bool
is_foreign command status = (status.sct == 1) && nat_lt status.sc 0xc0 && not (has_specific command status.sc)

-- Completion Queue Invalid, Invalid Queue Identifier, Invalid Queue Deletion
abbrev pub is_specific : StatusCode → ℕ → Bool
is_specific status sc = (status.sct == 1) && (status.sc == sc)

-- ---- what a command depends on
-- what may change it was answered before the fetch of the command, if it was fetched by now. So it was all the time as it is
abbrev pub is_settled : (asked mark : ℕ) → Bool
is_settled asked mark = nat_le asked mark

-- an identifier up to the number of queues that was told, which is zero based (Number of Queues)
abbrev pub is_within : (last qid : ℕ) → Bool
is_within last qid = nat_lt 0 qid && nat_le qid (last + 1)

-- NSQA, NCQA
abbrev pub is_sq_within : Option ℕ → ℕ → Bool
is_sq_within None qid = false
is_sq_within (Some numbers) qid = is_within (numbers % 0x10000) qid

abbrev pub is_cq_within : Option ℕ → ℕ → Bool
is_cq_within None qid = false
is_cq_within (Some numbers) qid = is_within (numbers / 0x10000) qid

-- ---- statuses that aren't true
-- Create I/O Submission Queue. An identifier is free (Queue Identifier), a queue has two slots at least (Queue Size), and its completion
-- queue is open (Completion Queue Identifier; what is said of CQID 0 isn't judged)
abbrev pub is_untrue_of_create_sq : Sq → Cq → Option ℕ → (mark qid qsize cqid : ℕ) → StatusCode → Bool
is_untrue_of_create_sq sq cq numbers mark qid qsize cqid status =
    if is_success status then is_some sq.ring || (qsize == 0) || (is_settled cq.asked mark && is_none cq.qsize)
    else if is_specific status 0x00 then not (cqid == 0) && is_settled cq.asked mark && is_some cq.qsize
    else is_specific status 0x01 && is_sq_within numbers qid && is_none sq.ring && is_cq_within numbers cqid

-- Create I/O Completion Queue
abbrev pub is_untrue_of_create_cq : Cq → Option ℕ → (qid qsize : ℕ) → StatusCode → Bool
is_untrue_of_create_cq cq numbers qid qsize status =
    if is_success status then is_some cq.qsize || (qsize == 0)
    else is_specific status 0x01 && is_cq_within numbers qid && is_none cq.qsize

-- Delete I/O Submission Queue
abbrev pub is_untrue_of_delete_sq : Sq → ℕ → StatusCode → Bool
is_untrue_of_delete_sq sq qid status =
    if is_success status then (qid == 0) || is_none sq.ring
    else is_specific status 0x01 && not (qid == 0) && is_some sq.ring

-- Delete I/O Completion Queue. No submission queue is attached to it (Invalid Queue Deletion)
abbrev pub is_attached : Cq → Bool
is_attached cq = nat_lt cq.parted cq.joined

abbrev pub is_untrue_of_delete_cq : Cq → (asked mark qid : ℕ) → StatusCode → Bool
is_untrue_of_delete_cq cq asked mark qid status =
    if is_success status then (qid == 0) || is_none cq.qsize || (is_settled asked mark && is_attached cq)
    else if is_specific status 0x01 then not (qid == 0) && is_some cq.qsize
    else is_specific status 0x0c && not (qid == 0) && is_settled asked mark && not (is_attached cq)

-- Number of Queues. A number is at most 65,535, which FFFEh stands for; it is the same until the next reset; and none is set once an I/O
-- queue was created
abbrev pub are_numbers : Option ℕ → Option ℕ → Bool
are_numbers told None = true
are_numbers None (Some dw0) = nat_lt (dw0 % 0x10000) 0xffff && nat_lt (dw0 / 0x10000) 0xffff
are_numbers (Some numbers) (Some dw0) = numbers == dw0

abbrev pub is_untrue_of_features : Option ℕ → (mark fid : ℕ) → Option ℕ → StatusCode → Bool
is_untrue_of_features numbers mark fid dw0 status = (fid == number_of_queues) && is_success status && (nat_lt 0 mark || not (are_numbers numbers dw0))

-- ---- rules
abbrev pub broken_if : Bool → Verdict → Verdict
broken_if fails verdict = if fails then verdict else Kept

-- once two commands of one queue met, none of these says which queues are open
abbrev pub status_rules : Sq → Cq → Admin → ℕ → Completion → AdminCommand → Verdict
status_rules sq cq admin mark completion (DeleteSq qid) = broken_if (not admin.met && is_untrue_of_delete_sq sq qid completion.status) (Broken rule.StatusDelete)
status_rules sq cq admin mark completion (CreateSq qid qsize prp1 cqid qprio pc) =
    broken_if (not admin.met && is_untrue_of_create_sq sq cq admin.numbers mark qid qsize cqid completion.status) (Broken rule.StatusCreate)
status_rules sq cq admin mark completion (DeleteCq qid) = broken_if (not admin.met && is_untrue_of_delete_cq cq admin.asked mark qid completion.status) (Broken rule.StatusDelete)
status_rules sq cq admin mark completion (CreateCq qid qsize prp1 pc) =
    broken_if (not admin.met && is_untrue_of_create_cq cq admin.numbers qid qsize completion.status) (Broken rule.StatusCreate)
status_rules sq cq admin mark completion (Abort sqid cid) = Kept
status_rules sq cq admin mark completion (SetFeatures fid sv cdw11) = broken_if (is_untrue_of_features admin.numbers mark fid completion.dw0 completion.status) (Broken rule.Features)
status_rules sq cq admin mark completion (GetFeatures fid) = Kept
status_rules sq cq admin mark completion Other = Kept

-- a status of this command, and a true one
abbrev pub own_rules : Sq → Cq → Admin → ℕ → Completion → AdminCommand → Verdict
own_rules sq cq admin mark completion command =
    if is_foreign command completion.status then Broken rule.StatusForeign else status_rules sq cq admin mark completion command

-- Command Aborted due to SQ Deletion: a Delete named the queue
abbrev pub is_undoomed : Sq → StatusCode → Bool
is_undoomed sq status = (status.sct == 0) && (status.sc == 0x08) && not sq.doomed

abbrev pub command_in : Option Command → Option AdminCommand
command_in None = None
command_in (Some command) = Some command.command

abbrev pub mark_in : Option Command → ℕ
mark_in None = 0
mark_in (Some command) = command.mark

-- the admin command that a completion answers
abbrev pub answered_in : Option Command → Completion → AdminCommand
answered_in command completion = answered_by (command_in command) completion

-- Command Abort Requested: an Abort named the command. And a command that an Abort says was aborted ends so
abbrev pub is_unnamed : Option Command → StatusCode → Bool
is_unnamed None status = false
is_unnamed (Some command) status = is_aborted status && not command.named

abbrev pub is_not_as_told : Option Command → StatusCode → Bool
is_not_as_told None status = false
is_not_as_told (Some command) status = command.owed && not (is_aborted status)

-- an Abort says that it aborted a command, and there is none: `sq` and `target` are the queue and the command that it names
abbrev pub is_untrue_abort : Tells → Sq → Option Command → ℕ → Completion → AdminCommand → Bool
is_untrue_abort tells sq target mark completion command =
    is_abort command && is_none target && told_of sq.stirred mark completion && not (sq.excused || (not tells.posts && sq.deleted))

-- what is judged of a completion by its name is judged by its status: `sq` is its submission queue, `own_cq`, `own_sq` and `target` are
-- what its command names
abbrev pub answer_verdict : Tells → (cq own_cq : Cq) → (sq own_sq : Sq) → Admin → (command target : Option Command) → Completion → Verdict
answer_verdict tells cq own_cq sq own_sq admin command target completion =
    if cq.excused || (sq.excused || (not tells.posts && sq.deleted)) then Kept
    else if is_undoomed sq completion.status then Broken rule.SqdelUnasked
    else if is_unnamed command completion.status then Broken rule.AbortUnasked
    else if is_not_as_told command completion.status || is_untrue_abort tells own_sq target (mark_in command) completion (answered_in command completion) then Broken rule.AbortUntrue
    else own_rules own_sq own_cq admin (mark_in command) completion (answered_in command completion)
