-- The checks of admin commands over a queue table. The first row that a command fails gives its status (order: profile).
use Rattle.std.specs.Prelude.{ℕ, zero, suc, ◌+◌, ◌-◌, ◌*◌, ◌^◌, ◌==◌, ◌&&◌, ◌||◌, Bool, true, false, not, nat_lt, if◌then◌else◌, List, [], ◌∷◌, ◌++◌, Option, Some, None, is_none, is_some, slice_get}
use Rattle.nvme_entry.specs.Checks.{Check, first_failed}
use Rattle.nvme_entry.specs.Status.{StatusCode, success, invalid_opcode, invalid_field, sequence_error, completion_queue_invalid, invalid_queue_identifier, invalid_queue_size, invalid_queue_deletion, feature_not_saveable}
use Rattle.nvme_entry.specs.Submission.{fuse_of}
use Rattle.nvme_entry.specs.AdminCommand.{admin_command_of}
use Rattle.nvme_entry.specs.declared.submission.Sqe.{Sqe}
use Rattle.nvme_entry.specs.declared.admin.AdminCommand.{AdminCommand}
use Rattle.nvme_entry.specs.declared.admin.AdminCommand.TheVariants.{DeleteSq, CreateSq, DeleteCq, CreateCq, SetFeatures, GetFeatures, Other}
use Rattle.nvme_entry.specs.declared.admin.AdminCommand.TheVariants as command
use Rattle.nvme_arbiter.specs.Settings.{cdw11_of}
use Rattle.nvme_admin.specs.declared.bounds.TheConstants.{MAX_REGIONS, MAX_QSIZE}
use Rattle.nvme_admin.specs.declared.region.Region.{Region}
use Rattle.nvme_admin.specs.declared.verdict.SqEntry.{SqEntry}
use Rattle.nvme_admin.specs.declared.verdict.Verdict.{Verdict}
use Rattle.nvme_admin.specs.declared.verdict.Verdict.TheVariants.{Done, OpenSq, OpenCq, BeginDelete, CloseCq, Abort, SetArbitration}
use Rattle.nvme_admin.specs.History.{Placing}
use Rattle.nvme_admin.specs.Placing.{prp_offset_invalid, invalid_interrupt_vector, vector_of, is_aligned}
use Rattle.nvme_admin.specs.QueueTable.{QueueTable, region_number, arbitration, number_of_queues, nsqr_of, ncqr_of}

-- a row of the checks: when a command fails it, and the status that answers it then
abbrev pub row : Bool → StatusCode → Check
row fails status = record { fails = fails; status = status }

-- a region has this number of slots
abbrev pub has_slots : Option Region → ℕ → Bool
has_slots None slots = false
has_slots (Some r) slots = r.slots == slots

-- the region of this number, where there is one, is unused and has this number of slots
abbrev pub is_fit : List Region → (ℕ → Bool) → ℕ → Option ℕ → Bool
is_fit regions used slots None = false
is_fit regions used slots (Some k) = has_slots (slice_get regions k) slots && not (used k)

-- an address is that of an unused region with a number of slots
abbrev pub is_free : List Region → (ℕ → Bool) → (address slots : ℕ) → Bool
is_free regions used address slots = is_fit regions used slots (region_number regions address)

-- a submission queue is open, and not closing
abbrev pub is_open : Option SqEntry → Bool
is_open None = false
is_open (Some queue) = not queue.closing

-- a submission queue, open or closing, is attached to a completion queue
abbrev pub attaches : ℕ → Option SqEntry → Bool
attaches cqid None = false
attaches cqid (Some queue) = queue.cqid == cqid

-- a test passes at some number below n
unfoldable pub some_below : (ℕ → Bool) → ℕ → Bool
some_below test zero = false
some_below test (suc n) = some_below test n || test n

-- some submission queue, open or closing, is attached to a completion queue
abbrev pub is_attached : QueueTable → ℕ → Bool
is_attached t cqid = some_below (λ q. attaches cqid (t.sq q)) MAX_REGIONS

-- the rows of each command
abbrev pub rows_of : QueueTable → AdminCommand → List Check
rows_of t (CreateCq qid qsize prp1 pc) =
    -- PC: a queue that isn't physically contiguous isn't supported. (Create I/O Completion Queue, Command Dword 11)
    row (not pc) invalid_field
    -- QID: 0 is the admin queue's, and no identifier above the allotted number or in use is valid. (Create I/O Completion Queue, Command Dword 10)
    ∷ row (qid == 0 || nat_lt t.ncq qid || is_some (t.cq qid)) invalid_queue_identifier
    -- QSIZE: a queue has at least two slots, and at most those of the largest region. (Create I/O Completion Queue, Command Dword 10; profile)
    ∷ row (qsize == 0 || nat_lt MAX_QSIZE qsize) invalid_queue_size
    -- PRP1: the address of an unused region of QSIZE + 1 slots, unless queues may lie anywhere (profile)
    ∷ row (is_none t.placing && not (is_free t.cq_regions t.cq_region_used prp1 (qsize + 1))) invalid_field
    ∷ []
rows_of t (CreateSq qid qsize prp1 cqid qprio pc) =
    -- PC, as above. (Create I/O Submission Queue, Command Dword 11)
    row (not pc) invalid_field
    -- QID, as above: a closing queue's identifier is in use. (Create I/O Submission Queue, Command Dword 10)
    ∷ row (qid == 0 || nat_lt t.nsq qid || is_some (t.sq qid)) invalid_queue_identifier
    -- QSIZE, as above. (Create I/O Submission Queue, Command Dword 10; profile)
    ∷ row (qsize == 0 || nat_lt MAX_QSIZE qsize) invalid_queue_size
    -- CQID: 0 is the admin queue's, and none above the allotted number of completion queues is valid. (Create I/O Submission Queue, Command Dword 11)
    ∷ row (cqid == 0 || nat_lt t.ncq cqid) invalid_queue_identifier
    -- CQID: a completion queue that is open. (Create I/O Submission Queue, Command Dword 11)
    ∷ row (is_none (t.cq cqid)) completion_queue_invalid
    -- PRP1, as above (profile)
    ∷ row (is_none t.placing && not (is_free t.sq_regions t.sq_region_used prp1 (qsize + 1))) invalid_field
    ∷ []
rows_of t (DeleteSq qid) =
    -- QID: an I/O submission queue that is open; closing isn't open. (Delete I/O Submission Queue, Command Dword 10)
    row (qid == 0 || not (is_open (t.sq qid))) invalid_queue_identifier
    ∷ []
rows_of t (DeleteCq qid) =
    -- QID: an I/O completion queue that is open. (Delete I/O Completion Queue, Command Dword 10)
    row (qid == 0 || is_none (t.cq qid)) invalid_queue_identifier
    -- no submission queue, open or closing, is attached to it. (Delete I/O Completion Queue)
    ∷ row (is_attached t qid) invalid_queue_deletion
    ∷ []
-- an Abort always succeeds: one that finds nothing says so in Dword 0 (Abort)
rows_of t (command.Abort sqid cid) = []
rows_of t (SetFeatures fid sv cdw11) =
    -- the features that are supported. (Set Features; profile)
    row (not (fid == arbitration || fid == number_of_queues)) invalid_field
    -- Save: no feature is saveable. (Set Features, Command Dword 10)
    ∷ row sv feature_not_saveable
    -- Number of Queues: not after a Create. (Number of Queues feature; profile)
    ∷ row (fid == number_of_queues && t.created) sequence_error
    -- Number of Queues: FFFFh isn't valid. (Number of Queues feature, Command Dword 11)
    ∷ row (fid == number_of_queues && (nsqr_of cdw11 == 0xffff || ncqr_of cdw11 == 0xffff)) invalid_field
    ∷ []
rows_of t (GetFeatures fid) =
    -- the features that are supported. (Get Features; profile)
    row (not (fid == arbitration || fid == number_of_queues)) invalid_field
    ∷ []
rows_of t Other =
    -- no other opcode is supported (profile)
    row true invalid_opcode
    ∷ []

-- the rows of a command where queues may lie anywhere
abbrev pub placing_rows_of : Placing → Sqe → AdminCommand → List Check
placing_rows_of p entry (CreateCq qid qsize prp1 pc) =
    -- QSIZE: at most MQES. (Create I/O Completion Queue, Command Dword 10)
    row (nat_lt p.mqes qsize) invalid_queue_size
    -- PRP1: its offset in the memory page is 0. (Create I/O Completion Queue, PRP Entry 1)
    ∷ row (not (is_aligned p.page prp1)) prp_offset_invalid
    -- IV: below the number of vectors, whatever IEN. (Create I/O Completion Queue, Command Dword 11; whatever IEN: profile)
    ∷ row (not (nat_lt (vector_of entry) p.vectors)) invalid_interrupt_vector
    ∷ []
placing_rows_of p entry (CreateSq qid qsize prp1 cqid qprio pc) =
    -- QSIZE and PRP1, as above. (Create I/O Submission Queue, Command Dword 10 and PRP Entry 1)
    row (nat_lt p.mqes qsize) invalid_queue_size
    ∷ row (not (is_aligned p.page prp1)) prp_offset_invalid
    ∷ []
placing_rows_of p entry command = []

-- the rows that an entry has beside those of its command: a Create where queues may lie anywhere
abbrev pub placing_rows : Option Placing → Sqe → List Check
placing_rows None entry = []
placing_rows (Some p) entry = placing_rows_of p entry (admin_command_of entry)

-- the status of an admin entry over a queue table
abbrev pub status_over : QueueTable → Sqe → StatusCode
status_over t entry =
    first_failed (
    -- FUSE: no fused admin command is supported. (Common Command Format, Command Dword 0; profile)
    row (not (fuse_of entry == 0)) invalid_field
    ∷ placing_rows t.placing entry ++ rows_of t (admin_command_of entry))

-- accepted is success: Generic Command Status, Successful Completion
abbrev pub is_success : StatusCode → Bool
is_success status = status.sct == 0 && status.sc == 0

-- NSQA and NCQA, zero based. (Number of Queues feature, Dword 0 of the completion)
abbrev pub numbers_dw0 : QueueTable → ℕ
numbers_dw0 t = (t.nsq - 1) + 2 ^ 16 * (t.ncq - 1)

-- Dword 0 of an accepted command, over the queue table after it; that of an Abort is the front's, and 0 here. (Set Features, Get Features, Arbitration feature, Number of Queues feature)
abbrev pub dw0_after : QueueTable → AdminCommand → ℕ
dw0_after after (SetFeatures fid sv cdw11) = if fid == number_of_queues then numbers_dw0 after else 0
dw0_after after (GetFeatures fid) = if fid == number_of_queues then numbers_dw0 after else cdw11_of after.settings
dw0_after after command = 0

-- Dword 0 of a command of this status
abbrev pub dw0_by : StatusCode → QueueTable → AdminCommand → ℕ
dw0_by status after command = if is_success status then dw0_after after command else 0

-- the verdict on an accepted command, over the queue table after it
abbrev pub opened_sq : ℕ → Option SqEntry → Verdict
opened_sq qid None = Done success 0
opened_sq qid (Some queue) = OpenSq qid queue.region queue.cqid queue.class

abbrev pub opened_cq : ℕ → Option ℕ → Verdict
opened_cq qid None = Done success 0
opened_cq qid (Some region) = OpenCq qid region

abbrev pub verdict_after : QueueTable → AdminCommand → Verdict
verdict_after after (CreateSq qid qsize prp1 cqid qprio pc) = opened_sq qid (after.sq qid)
verdict_after after (CreateCq qid qsize prp1 pc) = opened_cq qid (after.cq qid)
verdict_after after (DeleteSq qid) = BeginDelete qid
verdict_after after (DeleteCq qid) = CloseCq qid
verdict_after after (command.Abort sqid cid) = Abort sqid cid
verdict_after after (SetFeatures fid sv cdw11) =
    if fid == number_of_queues then Done success (dw0_after after (SetFeatures fid sv cdw11)) else SetArbitration after.settings
verdict_after after (GetFeatures fid) = Done success (dw0_after after (GetFeatures fid))
verdict_after after Other = Done success 0

-- the verdict on a command with this status: a refused one is answered with its status and 0
abbrev pub verdict_by : StatusCode → QueueTable → AdminCommand → Verdict
verdict_by status after command = if is_success status then verdict_after after command else Done status 0

-- the status and Dword 0 of a verdict: all but `Done` mean success with 0, except that the front decides Dword 0 of an Abort
abbrev pub status_in : Verdict → StatusCode
status_in (Done status dw0) = status
status_in verdict = success

abbrev pub dw0_in : Verdict → ℕ
dw0_in (Done status dw0) = dw0
dw0_in verdict = 0
