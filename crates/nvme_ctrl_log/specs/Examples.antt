-- Worked logs of a controller, for which the definitions compute (profile).
use Rattle.std.specs.Prelude.{ℕ, ◌+◌, ◌*◌, true, false, [], ◌∷◌}
use Rattle.nvme_entry.specs.Status.{StatusCode, success, invalid_field, aborted_by_deletion, lba_out_of_range, abort_requested}
use Rattle.nvme_entry.specs.declared.submission.Sqe.{Sqe}
use Rattle.nvme_entry.specs.declared.completion.Cqe.{Cqe}
use Rattle.nvme_arbiter.specs.declared.settings.Class.TheVariants.{Urgent, Low}
use Rattle.nvme_admin.specs.History.{Submission, Completion, RegionAdded}
use Rattle.nvme_log.specs.declared.event.Event.TheVariants.{Fetch, OpenSq, OpenCq, Closing, Abort, Post, ClosedSq}
use Rattle.nvme_log.specs.Answers.{Answer}
use Rattle.nvme_arbiter.specs.declared.pick.Seen.{Seen}
use Rattle.nvme_log.specs.Rules.{FrontRules}
use Rattle.nvme_log.specs.Examples.{one_deletion, get_arbitration, admin_picked, admin_posted, create_cq, create_sq, delete_sq, read, done, admin_seen, reads_seen, picked_of}
use Rattle.nvme_log.specs.AbortExamples.{abort}
use Rattle.nvme_ctrl_log.specs.Notes.{Notes, Logged, Tail, Head, Passed, Taken, Answered, Held, Classed}
use Rattle.nvme_ctrl_log.specs.Making.{with_region}
use Rattle.nvme_arbiter.specs.declared.settings.Mechanism.TheVariants.{Weighted}
use Rattle.nvme_arbiter.specs.declared.pick.Pick.{Pick}
use Rattle.nvme_arbiter.specs.Settings.{settings_of}
use Rattle.nvme_ctrl_log.specs.declared.status_flags.StatusFlags.{StatusFlags}

-- ---- four commands whose completions pass a ring of two slots twice
-- the settings of the Arbitration feature, as an answer
abbrev pub told : Answer
told = record { status = success; dw0 = 0x03010001 }

-- the host submitted four commands
abbrev pub four_submitted : Notes
four_submitted =
    Tail 0 4 ∷ []

-- three of them are fetched
abbrev pub three_of_four : Notes
three_of_four =
    Logged (Fetch 0 2 (get_arbitration 2))
    ∷ Logged (Fetch 0 1 (get_arbitration 1))
    ∷ Logged (Fetch 0 0 (get_arbitration 0)) ∷ four_submitted

-- and the fourth
abbrev pub four_fetched : Notes
four_fetched =
    Logged (Fetch 0 3 (get_arbitration 3)) ∷ three_of_four

-- the first is picked
abbrev pub first_picked : Notes
first_picked =
    Logged (admin_picked 4) ∷ four_fetched

-- and answered
abbrev pub first_answered : Notes
first_answered =
    Answered 0 0 told ∷ first_picked

-- its completion is posted, which fills the queue
abbrev pub first_posted : Notes
first_posted =
    Logged (admin_posted 0 true) ∷ first_answered

-- the host consumed it, and the second command is answered
abbrev pub second_answered : Notes
second_answered =
    Answered 0 1 told
    ∷ Logged (admin_picked 3) ∷ Head 0 1 ∷ first_posted

-- so is the third, after the ring was passed
abbrev pub third_answered : Notes
third_answered =
    Answered 0 2 told
    ∷ Logged (admin_picked 2) ∷ Head 0 0
    ∷ Logged (admin_posted 1 true) ∷ second_answered

-- all four are posted
abbrev pub two_passes : Notes
two_passes =
    Logged (admin_posted 3 false)
    ∷ Answered 0 3 told
    ∷ Logged (admin_picked 1) ∷ Head 0 1
    ∷ Logged (admin_posted 2 false) ∷ third_answered

-- ---- a queue that is deleted while the device has one of its commands and two wait
abbrev pub succeeded : Answer
succeeded = record { status = success; dw0 = 0 }

abbrev pub out_of_range : Answer
out_of_range = record { status = lba_out_of_range; dw0 = 0 }

-- the completion of a Read that was aborted
abbrev pub aborted_done : ℕ → Cqe
aborted_done cid = done 1 cid aborted_by_deletion

-- both Creates and a third admin command are fetched
abbrev pub creates_fetched_before : Sqe → Notes
creates_fetched_before third =
    Logged (Fetch 0 2 third)
    ∷ Logged (Fetch 0 1 create_sq)
    ∷ Logged (Fetch 0 0 create_cq) ∷ Tail 0 3 ∷ []

abbrev pub creates_fetched : Notes
creates_fetched = creates_fetched_before delete_sq

-- the Create of completion queue 1 is picked
abbrev pub create_picked_before : Sqe → Notes
create_picked_before third =
    Logged (picked_of (admin_seen 3 ∷ []) 0) ∷ creates_fetched_before third

abbrev pub create_picked : Notes
create_picked = create_picked_before delete_sq

-- completion queue 1 and submission queue 1 are there, before it
abbrev pub queue_made_before : Sqe → Notes
queue_made_before third =
    Logged (Post 0 0 1 (done 0 1 success))
    ∷ Answered 0 1 succeeded
    ∷ Logged (OpenSq 1 1 1 Urgent)
    ∷ Logged (picked_of (admin_seen 2 ∷ []) 0)
    ∷ Logged (Post 0 0 0 (done 0 0 success))
    ∷ Answered 0 0 succeeded
    ∷ Logged (OpenCq 1 1) ∷ create_picked_before third

abbrev pub queue_made : Notes
queue_made = queue_made_before delete_sq

-- the host submits three Reads
abbrev pub reads_submitted : Notes
reads_submitted =
    Tail 1 3 ∷ queue_made

-- which are fetched
abbrev pub reads_waiting : Notes
reads_waiting =
    Logged (Fetch 1 2 (read 2))
    ∷ Logged (Fetch 1 1 (read 1))
    ∷ Logged (Fetch 1 0 (read 0)) ∷ reads_submitted

-- one is picked
abbrev pub read_picked : Notes
read_picked =
    Logged (picked_of (admin_seen 1 ∷ reads_seen 3 ∷ []) 1) ∷ reads_waiting

-- and the device takes it under tag 7
abbrev pub read_taken : Notes
read_taken =
    Taken 7 1 0 ∷ read_picked

-- the deletion of the queue begins, and aborts the two that wait
abbrev pub delete_begun : Notes
delete_begun =
    Logged (Abort 1 2)
    ∷ Logged (Abort 1 1)
    ∷ Logged (Closing 1 1)
    ∷ Logged (picked_of (admin_seen 1 ∷ reads_seen 2 ∷ []) 0) ∷ read_taken

-- their completions are posted
abbrev pub aborts_posted : Notes
aborts_posted =
    Logged (Post 1 1 2 (aborted_done 2))
    ∷ Logged (Post 1 1 1 (aborted_done 1)) ∷ delete_begun

-- the device answers the third
abbrev pub read_answered : Notes
read_answered =
    Answered 1 0 succeeded ∷ aborts_posted

-- whose completion is posted
abbrev pub reads_posted : Notes
reads_posted =
    Logged (Post 1 1 0 (done 1 0 success)) ∷ read_answered

-- the deletion is finished
abbrev pub queue_gone : Notes
queue_gone =
    Logged (ClosedSq 1 1) ∷ reads_posted

-- and the command that began it is answered
abbrev pub delete_told : Notes
delete_told =
    Answered 0 2 succeeded ∷ queue_gone

-- whose completion is posted
abbrev pub deletion_noted : Notes
deletion_noted =
    Logged (Post 0 0 2 (done 0 2 success)) ∷ delete_told

-- ---- a region that is added when its Create was fetched
-- the rules of this log before the completion region at 9000h is added
abbrev pub without_region : FrontRules
without_region = record one_deletion { regions = RegionAdded Completion 0x8000 16 ∷ RegionAdded Submission 0x2000 8 ∷ RegionAdded Submission 0x1000 16 ∷ [] }

-- and with it
abbrev pub with_late_region : FrontRules
with_late_region = with_region Completion 0x9000 64 without_region

-- the answer to the Create where the region isn't there (Create I/O Completion Queue, PRP Entry 1; profile)
abbrev pub create_refused : Answer
create_refused = record { status = invalid_field; dw0 = 0 }

-- ---- two queues that are deleted at once, while a third one goes on
-- round robin, burst 1, one namespace of 1,000 blocks, four submission and two completion regions
abbrev pub two_deletions : FrontRules
two_deletions = record one_deletion {
  regions = RegionAdded Completion 0x9000 64 ∷ RegionAdded Completion 0x8000 16
      ∷ RegionAdded Submission 0x4000 8 ∷ RegionAdded Submission 0x3000 8 ∷ RegionAdded Submission 0x2000 8 ∷ RegionAdded Submission 0x1000 16 ∷ [];
}

-- the Create of a submission queue on the region of its number, and the Delete of one
abbrev pub create_queue : ℕ → Sqe
create_queue q = record create_sq { cid = q; prp1 = 0x1000 + 0x1000 * q; cdw10 = 0x00070000 + q }

abbrev pub delete_queue : (cid q : ℕ) → Sqe
delete_queue cid q = record delete_sq { cid = cid; cdw10 = q }

abbrev pub queue_seen : (q count : ℕ) → Seen
queue_seen q count = record { qid = q; class = Urgent; count = count }

-- the host submitted the Creates of a completion queue and of three submission queues, and two Deletes, which are fetched
abbrev pub deletes_submitted : Notes
deletes_submitted =
    Logged (Fetch 0 5 (delete_queue 5 2))
    ∷ Logged (Fetch 0 4 (delete_queue 4 1))
    ∷ Logged (Fetch 0 3 (create_queue 3))
    ∷ Logged (Fetch 0 2 (create_queue 2))
    ∷ Logged (Fetch 0 1 (create_queue 1))
    ∷ Logged (Fetch 0 0 create_cq)
    ∷ Tail 0 6 ∷ []

-- three submission queues are open, which post to one completion queue
abbrev pub three_opened : Notes
three_opened =
    Logged (Post 0 0 3 (record (done 0 3 success) { sqhd = 6 }))
    ∷ Answered 0 3 succeeded
    ∷ Logged (OpenSq 3 3 1 Urgent)
    ∷ Logged (picked_of (admin_seen 3 ∷ queue_seen 1 0 ∷ queue_seen 2 0 ∷ []) 0)
    ∷ Logged (Post 0 0 2 (record (done 0 2 success) { sqhd = 6 }))
    ∷ Answered 0 2 succeeded
    ∷ Logged (OpenSq 2 2 1 Urgent)
    ∷ Logged (picked_of (admin_seen 4 ∷ queue_seen 1 0 ∷ []) 0)
    ∷ Logged (Post 0 0 1 (record (done 0 1 success) { sqhd = 6 }))
    ∷ Answered 0 1 succeeded
    ∷ Logged (OpenSq 1 1 1 Urgent)
    ∷ Logged (picked_of (admin_seen 5 ∷ []) 0)
    ∷ Logged (Post 0 0 0 (record (done 0 0 success) { sqhd = 6 }))
    ∷ Answered 0 0 succeeded
    ∷ Logged (OpenCq 1 1)
    ∷ Logged (picked_of (admin_seen 6 ∷ []) 0) ∷ deletes_submitted

-- the host submitted two commands to queue 1, and the device has the first
abbrev pub first_taken : Notes
first_taken =
    Taken 7 1 0
    ∷ Logged (picked_of (admin_seen 2 ∷ queue_seen 1 1 ∷ queue_seen 2 0 ∷ queue_seen 3 0 ∷ []) 1)
    ∷ Logged (Fetch 1 0 (read 0))
    ∷ Tail 1 2 ∷ three_opened

-- two of the queues are being deleted
abbrev pub two_closing : Notes
two_closing =
    Logged (Closing 2 2)
    ∷ Logged (picked_of (admin_seen 1 ∷ queue_seen 2 0 ∷ queue_seen 3 0 ∷ []) 0)
    ∷ Logged (Closing 1 1)
    ∷ Logged (picked_of (admin_seen 2 ∷ queue_seen 1 0 ∷ queue_seen 2 0 ∷ queue_seen 3 0 ∷ []) 0) ∷ first_taken

-- a command of the third is fetched, picked, executed and posted meanwhile
abbrev pub third_served : Notes
third_served =
    Logged (Post 1 3 0 (record (done 3 0 success) { sqhd = 1 }))
    ∷ Answered 3 0 succeeded
    ∷ Taken 8 3 0
    ∷ Logged (picked_of (admin_seen 0 ∷ queue_seen 3 1 ∷ []) 3)
    ∷ Logged (Fetch 3 0 (read 0))
    ∷ Tail 3 1 ∷ two_closing

-- the deletion of queue 2 is finished, and its Delete is answered
abbrev pub second_gone : Notes
second_gone =
    Logged (Post 0 0 5 (record (done 0 5 success) { sqhd = 6 }))
    ∷ Answered 0 5 succeeded
    ∷ Logged (ClosedSq 2 2) ∷ third_served

-- the device answers its command, whose completion is posted
abbrev pub first_left : Notes
first_left =
    Logged (Post 1 1 0 (record (done 1 0 success) { sqhd = 1 }))
    ∷ Answered 1 0 succeeded ∷ second_gone

-- so is the deletion of queue 1
abbrev pub both_gone : Notes
both_gone =
    Logged (Post 0 0 4 (record (done 0 4 success) { sqhd = 6 }))
    ∷ Answered 0 4 succeeded
    ∷ Logged (ClosedSq 1 1) ∷ first_left

-- ---- flags
abbrev pub unflagged : StatusFlags
unflagged = record { more = false; do_not_retry = false }

abbrev pub not_retried : StatusFlags
not_retried = record { more = false; do_not_retry = true }

abbrev pub more_told : StatusFlags
more_told = record { more = true; do_not_retry = false }

-- ---- an admin command that is the device's
-- an Identify (Opcodes for Admin Commands)
abbrev pub identify : ℕ → Sqe
identify cid = record (get_arbitration cid) { opcode = 0x06 }

-- it is fetched
abbrev pub identify_fetched : Notes
identify_fetched =
    Logged (Fetch 0 0 (identify 0)) ∷ Tail 0 1 ∷ []

-- picked
abbrev pub identify_picked : Notes
identify_picked =
    Logged (admin_picked 1) ∷ identify_fetched

-- passed on to the device
abbrev pub identify_passed : Notes
identify_passed =
    Passed 0 ∷ identify_picked

-- taken by it
abbrev pub identify_taken : Notes
identify_taken =
    Taken 7 0 0 ∷ identify_passed

-- and answered
abbrev pub identify_answered : Notes
identify_answered =
    Answered 0 0 succeeded ∷ identify_taken

-- its completion, with a status
abbrev pub identified : StatusCode → Cqe
identified status = record { dw0 = 0; sqhd = 1; sqid = 0; cid = 0; phase = true; status = status }

-- a Get Features and a Set Features of a feature identifier, the one with a value that is selected
abbrev pub get_feature : (fid select : ℕ) → Sqe
get_feature fid select = record (get_arbitration 0) { cdw10 = fid + 256 * select }

abbrev pub set_feature : ℕ → Sqe
set_feature fid = record (get_arbitration 0) { opcode = 0x09; cdw10 = fid }

-- ---- an Abort that is the device's
-- an Abort, with identifier 2, of a command of submission queue 1
abbrev pub abort_of_read : ℕ → Sqe
abort_of_read target = abort 2 1 target

-- it waits, while the device has Read 0 under tag 7 and Reads 1 and 2 wait
abbrev pub abort_waiting : ℕ → Notes
abort_waiting target =
    Taken 7 1 0
    ∷ Logged (picked_of (admin_seen 1 ∷ reads_seen 3 ∷ []) 1)
    ∷ Logged (Fetch 1 2 (read 2))
    ∷ Logged (Fetch 1 1 (read 1))
    ∷ Logged (Fetch 1 0 (read 0)) ∷ Tail 1 3 ∷ queue_made_before (abort_of_read target)

-- it is picked
abbrev pub abort_picked : ℕ → Notes
abort_picked target =
    Logged (picked_of (admin_seen 1 ∷ reads_seen 2 ∷ []) 0) ∷ abort_waiting target

-- the Abort of Read 0 is passed on to the device
abbrev pub abort_passed : Notes
abort_passed =
    Passed 2 ∷ abort_picked 0

-- and taken by it
abbrev pub abort_taken : Notes
abort_taken =
    Taken 8 0 2 ∷ abort_passed

-- which ends the Read (Command Abort Requested)
abbrev pub aborted_read : Answer
aborted_read = record { status = abort_requested; dw0 = 0 }

abbrev pub read_aborted : Notes
read_aborted =
    Answered 1 0 aborted_read ∷ abort_taken

-- and answers the Abort: bit 0 of Dword 0 is clear, for a command that was aborted (Abort)
abbrev pub abort_answered : Notes
abort_answered =
    Answered 0 2 succeeded ∷ read_aborted

-- the completion of the Abort, with Dword 0
abbrev pub abort_done : ℕ → Cqe
abort_done dw0 = record (done 0 2 success) { dw0 = dw0 }

-- ---- queues that are held, and classes that are set
-- queue 1 is held while three of its commands wait, and its deletion begins, which aborts them
abbrev pub held_and_deleted : Notes
held_and_deleted =
    Logged (Abort 1 2)
    ∷ Logged (Abort 1 1)
    ∷ Logged (Abort 1 0)
    ∷ Logged (Closing 1 1)
    ∷ Logged (picked_of (admin_seen 1 ∷ reads_seen 0 ∷ []) 0)
    ∷ Held 1 true ∷ reads_waiting

-- queue 1, whose Create asked for urgent, has the class low, and is picked so
abbrev pub low_seen : ℕ → Seen
low_seen count = record { qid = 1; class = Low; count = count }

abbrev pub classed_and_picked : Notes
classed_and_picked =
    Logged (picked_of (admin_seen 1 ∷ low_seen 3 ∷ []) 1)
    ∷ Classed 1 Low ∷ reads_waiting

-- weighted round robin, burst 2, weights 4, 2 and 1
abbrev pub weighted_rules : FrontRules
weighted_rules = record {
  mechanism = Weighted;
  start = record { nsq = 16; ncq = 16; settings = settings_of 0x03010001 };
  sizes = [];
  regions = [];
}

-- two commands wait in an urgent queue 1, and two in a low queue 2
abbrev pub two_waiting : Notes
two_waiting =
    Logged (Fetch 2 1 (read 1))
    ∷ Logged (Fetch 2 0 (read 0))
    ∷ Logged (Fetch 1 1 (read 1))
    ∷ Logged (Fetch 1 0 (read 0))
    ∷ Logged (OpenSq 2 2 1 Low)
    ∷ Logged (OpenSq 1 1 1 Urgent) ∷ []

-- a pick of so many commands of a queue, in which no round starts
abbrev pub pick_of : (qid n : ℕ) → Pick
pick_of qid n = record { qid = qid; n = n; fresh = false }
