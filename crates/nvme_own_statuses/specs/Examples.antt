-- A worked log in which a Delete of a completion queue is refused, since a submission queue is attached to it.
-- (Base Specification, Delete I/O Completion Queue, Invalid Queue Deletion)
use Rattle.std.specs.Prelude.{ℕ, true, [], ◌∷◌}
use Rattle.nvme_entry.specs.Status.{StatusCode, success, invalid_queue_deletion}
use Rattle.nvme_entry.specs.declared.submission.Sqe.{Sqe}
use Rattle.nvme_entry.specs.declared.completion.Cqe.{Cqe}
use Rattle.nvme_arbiter.specs.declared.settings.Class.TheVariants.{Urgent}
use Rattle.nvme_log.specs.declared.event.Event.TheVariants.{Fetch, OpenSq, OpenCq, Post}
use Rattle.nvme_log.specs.Examples.{command, create_cq, create_sq, read, admin_seen, reads_seen, picked_of}
use Rattle.nvme_ctrl_log.specs.Notes.{Notes, Logged, Tail, Head, Taken, Answered}
use Rattle.nvme_ctrl_log.specs.Examples.{succeeded}

-- Delete I/O Completion Queue 1
abbrev pub delete_cq : Sqe
delete_cq = command 4 2 0 0 1 0

-- a completion after this many were fetched from its queue
abbrev pub answer : (sqid cid fetched : ℕ) → StatusCode → Cqe
answer sqid cid fetched status = record { dw0 = 0; sqhd = fetched; sqid = sqid; cid = cid; phase = true; status = status }

-- queue pair 1 is created, and a Read in it is answered by the device
abbrev pub read_done : Notes
read_done =
    Answered 1 0 succeeded
    ∷ Taken 7 1 0
    ∷ Logged (picked_of (admin_seen 0 ∷ reads_seen 1 ∷ []) 1)
    ∷ Logged (Fetch 1 0 (read 0)) ∷ Tail 1 1
    ∷ Logged (Post 0 0 1 (answer 0 1 2 success)) ∷ Answered 0 1 succeeded
    ∷ Logged (OpenSq 1 1 1 Urgent) ∷ Logged (picked_of (admin_seen 1 ∷ []) 0)
    ∷ Logged (Fetch 0 1 create_sq) ∷ Tail 0 2
    ∷ Logged (Post 0 0 0 (answer 0 0 1 success)) ∷ Answered 0 0 succeeded
    ∷ Logged (OpenCq 1 1) ∷ Logged (picked_of (admin_seen 1 ∷ []) 0)
    ∷ Logged (Fetch 0 0 create_cq) ∷ Tail 0 1
    ∷ []

abbrev pub pair_made : Notes
pair_made = Head 1 1 ∷ Logged (Post 1 1 0 (answer 1 0 1 success)) ∷ read_done

-- the host deletes the completion queue, which the controller refuses
abbrev pub refused : Notes
refused =
    Answered 0 2 (record { status = invalid_queue_deletion; dw0 = 0 })
    ∷ Logged (picked_of (admin_seen 1 ∷ reads_seen 0 ∷ []) 0)
    ∷ Logged (Fetch 0 2 delete_cq) ∷ Tail 0 3
    ∷ pair_made

-- and says so
abbrev pub refused_told : Notes
refused_told =
    Logged (Post 0 0 2 (answer 0 2 3 invalid_queue_deletion)) ∷ refused
