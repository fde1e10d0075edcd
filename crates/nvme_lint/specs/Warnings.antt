-- What of a valid workload has no effect, by the queue table after its admin commands. A front begins none of them before
-- the deletion that the one before began is finished, so that their answers depend on nothing else. (profile)
use Rattle.std.specs.Prelude.{◌≡◌, ℕ, ◌/◌, ◌%◌, Bool, false, ◌==◌, ◌&&◌, ◌||◌, not, nat_lt, if◌then◌else◌, List, [], ◌∷◌, ◌++◌, length, reverse, Ok, Option, Some, None, is_some, option_map, slice_get}
use Rattle.std.specs.List.{count_by, list_any, position}
use Rattle.nvme_arbiter.specs.Settings.{ArbitrationFields, weight_of}
use Rattle.nvme_arbiter.specs.declared.settings.Class.TheVariants.{High, Medium, Low}
use Rattle.nvme_arbiter.specs.declared.settings.Mechanism.{Mechanism}
use Rattle.nvme_arbiter.specs.declared.settings.Mechanism.TheVariants.{RoundRobin, Weighted}
use Rattle.nvme_entry.specs.Outcome.{outcome_of}
use Rattle.nvme_entry.specs.Status.{StatusCode, success}
use Rattle.nvme_entry.specs.declared.submission.Sqe.{Sqe}
use Rattle.nvme_admin.specs.History.{Start, TableHistory, Submission, Completion, RegionAdded, EntryApplied, DeletionFinished}
use Rattle.nvme_admin.specs.QueueTable.{QueueTable}
use Rattle.nvme_admin.specs.Checks.{is_success}
use Rattle.nvme_admin.specs.Accepted.{queue_table, status_of, verdict_of}
use Rattle.nvme_admin.specs.declared.verdict.SqEntry.{SqEntry}
use Rattle.nvme_admin.specs.declared.verdict.Verdict.{Verdict}
use Rattle.nvme_admin.specs.declared.verdict.Verdict.TheVariants.{BeginDelete}
use Rattle.nvme_workload.specs.declared.plan.SqPlan.{SqPlan}
use Rattle.nvme_workload.specs.declared.plan.CqPlan.{CqPlan}
use Rattle.nvme_workload.specs.Plan.{Plan, workload_of}
use Rattle.nvme_lint.specs.declared.site.Site.{Site}
use Rattle.nvme_lint.specs.declared.room.Room.{Room}
use Rattle.nvme_lint.specs.declared.warning.Warning.{Warning}
use Rattle.nvme_lint.specs.declared.warning.Warning.TheVariants.{Refused, NoTarget, Unused, TooLong, Failing, WeightsUnheeded, ClassesUnheeded}
use Rattle.nvme_lint.specs.declared.warning.Kind.TheVariants as kind

-- what the table of a workload begins with
abbrev pub start_of : Plan → Start
start_of p = record { nsq = p.nsq; ncq = p.ncq; settings = p.settings }

-- a history with these submission regions added
unfoldable pub with_sqs : TableHistory → List SqPlan → TableHistory
with_sqs h [] = h
with_sqs h (region ∷ regions) = with_sqs (RegionAdded Submission region.address region.slots ∷ h) regions

-- a history with these completion regions added
unfoldable pub with_cqs : TableHistory → List CqPlan → TableHistory
with_cqs h [] = h
with_cqs h (region ∷ regions) = with_cqs (RegionAdded Completion region.address region.slots ∷ h) regions

-- the history before the first admin command: that of the regions
abbrev pub first_history : Plan → TableHistory
first_history p = with_cqs (with_sqs [] p.submissions) p.completions

-- a deletion that a verdict begins is finished at once
abbrev pub finished_after : Verdict → TableHistory → TableHistory
finished_after (BeginDelete qid) h = DeletionFinished qid ∷ h
finished_after verdict h = h

-- the history after one admin command more
abbrev pub history_after : Start → TableHistory → Sqe → TableHistory
history_after start h entry = finished_after (verdict_of start h entry) (EntryApplied entry ∷ h)

-- the history after these admin commands more, of which the latest comes first
unfoldable pub history_of : Start → TableHistory → List Sqe → TableHistory
history_of start h [] = h
history_of start h (entry ∷ earlier) = history_after start (history_of start h earlier) entry

-- a warning, unless all is well
abbrev pub warning_unless : Bool → Warning → List Warning
warning_unless well warning = if well then [] else warning ∷ []

-- the slots of a region, where there is one
abbrev pub sq_slots : Option SqPlan → ℕ
sq_slots None = 0
sq_slots (Some region) = region.slots

abbrev pub cq_slots : Option CqPlan → ℕ
cq_slots None = 0
cq_slots (Some region) = region.slots

-- the region with this address
abbrev pub sq_site_at : List SqPlan → ℕ → Option Site
sq_site_at regions address =
    option_map (λ k. record { number = k; slots = sq_slots (slice_get regions k) }) (position (λ r. r.address == address) regions)

abbrev pub cq_site_at : List CqPlan → ℕ → Option Site
cq_site_at regions address =
    option_map (λ k. record { number = k; slots = cq_slots (slice_get regions k) }) (position (λ r. r.address == address) regions)

-- the region that a Create names by PRP1: Create I/O Submission Queue (01h), Create I/O Completion Queue (05h)
abbrev pub site_of : List SqPlan → List CqPlan → Sqe → Option Site
site_of sqs cqs entry =
    if entry.opcode == 0x01 then sq_site_at sqs entry.prp1 else (if entry.opcode == 0x05 then cq_site_at cqs entry.prp1 else None)

-- how many commands the script of a region has, where there is one
abbrev pub script_length : Option SqPlan → ℕ
script_length None = 0
script_length (Some region) = length region.script

-- how many commands a queue has, where it is open: those of the script of its region
abbrev pub commands_of : List SqPlan → Option SqEntry → Option ℕ
commands_of sqs queue = option_map (λ (q : SqEntry). script_length (slice_get sqs q.region)) queue

-- a CID is that of one of so many commands, which count from 0
abbrev pub has_cid : Option ℕ → ℕ → Bool
has_cid None cid = false
has_cid (Some commands) cid = nat_lt cid commands

-- an Abort (08h) aborts nothing: it names the admin queue, or a command that its queue, which has so many, doesn't have. (Abort, Command Dword 10: CID 31:16, SQID 15:00)
abbrev pub aborts_none : Option ℕ → Sqe → Bool
aborts_none commands entry = (entry.opcode == 0x08) && ((entry.cdw10 % 65536 == 0) || not (has_cid commands (entry.cdw10 / 65536)))

-- whether a queue is open under the identifier that a Create names: a completion queue of a Create I/O Completion Queue (05h), and else a submission queue
abbrev pub is_open : Bool → Option SqEntry → Option ℕ → Bool
is_open names_cq sq cq = if names_cq then is_some cq else is_some sq

-- what room there is for the queue that a Create names, by the queues of each kind that are open under its identifier and the allotted numbers
abbrev pub room_of : Option SqEntry → Option ℕ → ℕ → ℕ → Sqe → Room
room_of sq cq nsq ncq entry = record { is_open = is_open (entry.opcode == 0x05) sq cq; nsq = nsq; ncq = ncq }

-- before it, in the queue table. (Command Dword 10: QID 15:00)
abbrev pub room_in : QueueTable → Sqe → Room
room_in table entry = room_of (table.sq (entry.cdw10 % 65536)) (table.cq (entry.cdw10 % 65536)) table.nsq table.ncq entry

-- the warning of the command of this number: its status isn't success, or it aborts a command that there isn't
abbrev pub of_command : ℕ → Sqe → StatusCode → Option Site → Room → Option ℕ → List Warning
of_command number entry status site room commands =
    if is_success status then warning_unless (not (aborts_none commands entry)) (NoTarget number entry commands)
    else Refused number entry status site room ∷ []

-- how a command is told, by the queue table before it, its number and its status
abbrev pub Telling : Type 0
Telling = QueueTable → ℕ → Sqe → StatusCode → List Warning

-- with the region that a Create names, the room that there is for its queue, and the commands of the queue that an Abort names. (Abort, Command Dword 10: SQID 15:00)
abbrev pub told_of : List SqPlan → List CqPlan → Telling
told_of sqs cqs table number entry status =
    of_command number entry status (site_of sqs cqs entry) (room_in table entry) (commands_of sqs (table.sq (entry.cdw10 % 65536)))

-- the warnings of these admin commands, of which the latest comes first. The number of a command is that of the commands before it
unfoldable pub of_commands : Telling → Start → TableHistory → List Sqe → List Warning
of_commands tell start h [] = []
of_commands tell start h (entry ∷ earlier) =
    of_commands tell start h earlier
    ++ tell (queue_table start (history_of start h earlier)) (length earlier) entry (status_of start (history_of start h earlier) entry)

-- the warnings of these submission regions, of which the last comes first, where `used` tells on which a queue was created
unfoldable pub unused_sqs : (ℕ → Bool) → List SqPlan → List Warning
unused_sqs used [] = []
unused_sqs used (region ∷ earlier) =
    unused_sqs used earlier ++ warning_unless (used (length earlier)) (Unused kind.Submission (length earlier) (length region.script))

-- the warnings of these completion regions
unfoldable pub unused_cqs : (ℕ → Bool) → List CqPlan → List Warning
unused_cqs used [] = []
unused_cqs used (region ∷ earlier) =
    unused_cqs used earlier ++ warning_unless (used (length earlier)) (Unused kind.Completion (length earlier) 0)

-- ---- scripts that come to nothing

-- an I/O command is answered with this status, unless a deletion or an Abort takes it first
abbrev pub has_status : List ℕ → StatusCode → Sqe → Bool
has_status sizes status entry = ((outcome_of entry sizes).sct == status.sct) && ((outcome_of entry sizes).sc == status.sc)

-- how many commands of a script are
abbrev pub count_of : List ℕ → StatusCode → List Sqe → ℕ
count_of sizes status script = count_by (has_status sizes status) script

-- the warning of a script with more commands than the ring of its region holds, which has one less than slots
abbrev pub too_long : ℕ → SqPlan → List Warning
too_long number region = warning_unless (nat_lt (length region.script) region.slots) (TooLong number (length region.script) region.slots)

-- the warning of a script without a command that is answered with success, with how many are answered as the first one
abbrev pub failing : List ℕ → ℕ → List Sqe → List Warning
failing sizes number [] = []
failing sizes number (entry ∷ script) =
    warning_unless (nat_lt 0 (count_of sizes success (entry ∷ script)))
    (Failing number (count_of sizes (outcome_of entry sizes) (entry ∷ script)) (length (entry ∷ script)) (outcome_of entry sizes))

-- the warnings of the script of a region. That of the admin queue has no I/O command, and on an unused region nothing is fetched
abbrev pub of_script : List ℕ → Bool → ℕ → SqPlan → List Warning
of_script sizes is_used number region =
    too_long number region ++ (if (number == 0) || not is_used then [] else failing sizes number region.script)

-- the warnings of the scripts of these submission regions, of which the last comes first, where `used` tells on which a queue was created
unfoldable pub of_scripts : List ℕ → (ℕ → Bool) → List SqPlan → List Warning
of_scripts sizes used [] = []
of_scripts sizes used (region ∷ earlier) =
    of_scripts sizes used earlier ++ of_script sizes (used (length earlier)) (length earlier) region

-- ---- what round robin doesn't heed

-- a Create I/O Submission Queue (01h) with this QPRIO. (Command Dword 11 02:01)
abbrev pub creates_class : ℕ → Sqe → Bool
creates_class qprio entry = (entry.opcode == 0x01) && (entry.cdw11 / 2 % 4 == qprio)

abbrev pub has_class : List Sqe → ℕ → Bool
has_class script qprio = list_any (creates_class qprio) script

-- the submission queues of an admin script are of two classes or more
abbrev pub has_classes : List Sqe → Bool
has_classes script =
    (has_class script 0 && (has_class script 1 || has_class script 2 || has_class script 3))
    || (has_class script 1 && (has_class script 2 || has_class script 3))
    || (has_class script 2 && has_class script 3)

-- some level has another weight than 1
abbrev pub has_weights : ArbitrationFields → Bool
has_weights s = nat_lt 1 (weight_of s High) || nat_lt 1 (weight_of s Medium) || nat_lt 1 (weight_of s Low)

-- the warnings of weights and classes, which round robin doesn't heed
abbrev pub unheeded : Mechanism → ArbitrationFields → List Sqe → List Warning
unheeded Weighted settings script = []
unheeded RoundRobin settings script =
    warning_unless (not (has_weights settings)) WeightsUnheeded ++ warning_unless (not (has_classes script)) ClassesUnheeded

-- the script of the admin queue, whose region is the first
abbrev pub admin_script : List SqPlan → List Sqe
admin_script [] = []
admin_script (region ∷ regions) = region.script

-- the queue table after all admin commands. A region is used in it where an accepted Create named it, and region 0 is the admin queue's
abbrev pub last_table : Plan → QueueTable
last_table p = queue_table (start_of p) (history_of (start_of p) (first_history p) (reverse (admin_script p.submissions)))

-- the warnings of a workload: the admin commands that are refused or abort a command that there isn't, in order, then the
-- submission regions that no queue was created on, then such completion regions, then the scripts that are too long for their rings or come to nothing,
-- then weights and classes that aren't heeded
abbrev pub warnings_of : Plan → List Warning
warnings_of p =
    of_commands (told_of p.submissions p.completions) (start_of p) (first_history p) (reverse (admin_script p.submissions))
    ++ unused_sqs (last_table p).sq_region_used (reverse p.submissions)
    ++ unused_cqs (last_table p).cq_region_used (reverse p.completions)
    ++ of_scripts p.sizes (last_table p).sq_region_used (reverse p.submissions)
    ++ unheeded p.mechanism p.settings (admin_script p.submissions)

-- these are the warnings of the workload of the bytes
abbrev pub AreWarningsOf : List ℕ → List Warning → Type 0
AreWarningsOf bytes warnings = (plan : Plan) × (workload_of bytes ≡ Ok plan) × (warnings ≡ warnings_of plan)
