-- Worked: why a host turns a completion queue by one command at a time. (Base Specification, Create and Delete I/O Completion Queue; profile)
use Rattle.std.specs.Prelude.{ℕ, true, [], ◌∷◌}
use Rattle.nvme_entry.specs.Status.{success}
use Rattle.nvme_entry.specs.declared.submission.Sqe.{Sqe}
use Rattle.nvme_entry.specs.declared.completion.Cqe.{Cqe}
use Rattle.nvme_arbiter.specs.declared.settings.Class.TheVariants.{Urgent}
use Rattle.nvme_admin.specs.History.{RegionAdded, Submission, Completion}
use Rattle.nvme_log.specs.declared.event.Event.TheVariants.{Fetch, OpenSq, OpenCq, ClosedCq, Post}
use Rattle.nvme_log.specs.Rules.{FrontRules}
use Rattle.nvme_log.specs.Examples.{one_deletion, command, read, admin_seen, reads_seen, picked_of}
use Rattle.nvme_ctrl_log.specs.Notes.{Notes, Logged, Tail, Taken, Answered}
use Rattle.nvme_ctrl_log.specs.Examples.{succeeded}

-- two regions for completion queues beside the admin queue's, and one for a submission queue
abbrev pub two_rings : FrontRules
two_rings = record one_deletion {
  regions = RegionAdded Completion 0xa000 64 ∷ RegionAdded Completion 0x9000 64 ∷ RegionAdded Completion 0x8000 16
      ∷ RegionAdded Submission 0x2000 8 ∷ RegionAdded Submission 0x1000 16 ∷ [];
}

-- Create I/O Completion Queue 1 on a region, its Delete, and Create I/O Submission Queue 1 that posts there
abbrev pub create_on : (cid address : ℕ) → Sqe
create_on cid address = command 5 cid 0 address 0x003f0001 1

abbrev pub delete_cq : Sqe
delete_cq = command 4 1 0 0 1 0

abbrev pub create_poster : Sqe
create_poster = command 1 3 0 0x2000 0x00070001 0x00010001

-- a completion after this many were fetched from its queue
abbrev pub answer : (sqid cid fetched : ℕ) → Cqe
answer sqid cid fetched = record { dw0 = 0; sqhd = fetched; sqid = sqid; cid = cid; phase = true; status = success }

-- completion queue 1 is created, deleted and created again by commands that are all outstanding; the second Create is answered before the Delete.
-- Then a Read of a queue that posts there is answered
abbrev pub read_answered : Notes
read_answered =
    Answered 1 0 succeeded
    ∷ Taken 7 1 0
    ∷ Logged (picked_of (admin_seen 0 ∷ reads_seen 1 ∷ []) 1)
    ∷ Logged (Fetch 1 0 (read 0)) ∷ Tail 1 1
    ∷ Logged (Post 0 0 3 (answer 0 3 4)) ∷ Answered 0 3 succeeded
    ∷ Logged (Post 0 0 1 (answer 0 1 4)) ∷ Answered 0 1 succeeded
    ∷ Logged (Post 0 0 2 (answer 0 2 4)) ∷ Answered 0 2 succeeded
    ∷ Logged (Post 0 0 0 (answer 0 0 4)) ∷ Answered 0 0 succeeded
    ∷ Logged (OpenSq 1 1 1 Urgent) ∷ Logged (picked_of (admin_seen 1 ∷ []) 0)
    ∷ Logged (OpenCq 1 2) ∷ Logged (picked_of (admin_seen 2 ∷ []) 0)
    ∷ Logged (ClosedCq 1 1) ∷ Logged (picked_of (admin_seen 3 ∷ []) 0)
    ∷ Logged (OpenCq 1 1) ∷ Logged (picked_of (admin_seen 4 ∷ []) 0)
    ∷ Logged (Fetch 0 3 create_poster) ∷ Logged (Fetch 0 2 (create_on 2 0xa000))
    ∷ Logged (Fetch 0 1 delete_cq) ∷ Logged (Fetch 0 0 (create_on 0 0x9000)) ∷ Tail 0 4
    ∷ []

-- and its completion is posted
abbrev pub read_told : Notes
read_told = Logged (Post 2 1 0 (answer 1 0 1)) ∷ read_answered
