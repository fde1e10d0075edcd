-- Worked logs in which Abort commands are picked. (Base Specification, Abort)
use Rattle.std.specs.Prelude.{ℕ, ◌+◌, ◌*◌, Bool, true, false, List, [], ◌∷◌}
use Rattle.nvme_entry.specs.Status.{StatusCode, success, abort_requested, aborted_by_deletion}
use Rattle.nvme_entry.specs.declared.submission.Sqe.{Sqe}
use Rattle.nvme_entry.specs.declared.completion.Cqe.{Cqe}
use Rattle.nvme_arbiter.specs.declared.settings.Class.TheVariants.{Urgent, Medium}
use Rattle.nvme_arbiter.specs.declared.pick.Pick.{Pick}
use Rattle.nvme_log.specs.declared.event.Event.TheVariants.{Fetch, OpenSq, OpenCq, Closing, Abort, Post, ClosedSq}
use Rattle.nvme_log.specs.Rules.{Past}
use Rattle.nvme_log.specs.Examples.{command, create_cq, create_sq, read, done, admin_seen, reads_seen, picked_of}
use Rattle.nvme_log.specs.FourNumbers.{create_cq_3, create_sq_4, delete_sq_4, seen_4, two_picked_of}

-- the Abort, with its own identifier, of a command of a submission queue
abbrev pub abort : (cid sqid target : ℕ) → Sqe
abort cid sqid target = command 8 cid 0 0 (sqid + 0x10000 * target) 0

-- ---- one Abort command takes one of the two commands of queue 1 that wait, and a second finds nothing. The rules are those of `one_deletion`

-- the Abort command, and one with FUSE
abbrev pub abort_1_1 : Sqe
abort_1_1 = abort 2 1 1

abbrev pub fused_abort : Sqe
fused_abort = record abort_1_1 { flags = 1 }

abbrev pub two_aborts : List Sqe
two_aborts = create_cq ∷ create_sq ∷ abort_1_1 ∷ abort 3 1 1 ∷ []

-- three Reads, of which the third may have the identifier of the second
abbrev pub reads_and : ℕ → List Sqe
reads_and third = read 0 ∷ read 1 ∷ read third ∷ []

-- the completion of an admin command, after all four were fetched
abbrev pub told : (cid dw0 : ℕ) → StatusCode → Cqe
told cid dw0 status = record { dw0 = dw0; sqhd = 4; sqid = 0; cid = cid; phase = true; status = status }

abbrev pub two_aborts_told : List Cqe
two_aborts_told = told 0 0 success ∷ told 1 0 success ∷ told 2 0 success ∷ told 3 1 success ∷ []

-- in the order of their posts
abbrev pub reads_told : ℕ → List Cqe
reads_told third = done 1 1 abort_requested ∷ done 1 0 success ∷ done 1 third success ∷ []

-- the log up to the fetches from queue 1, with an Abort command and the identifier of the third Read
abbrev pub three_waiting : Sqe → ℕ → Past
three_waiting entry third =
    Fetch 1 2 (read third) ∷ Fetch 1 1 (read 1) ∷ Fetch 1 0 (read 0)
    ∷ Post 0 0 1 (told 1 0 success) ∷ OpenSq 1 1 1 Urgent ∷ picked_of (admin_seen 3 ∷ []) 0
    ∷ Post 0 0 0 (told 0 0 success) ∷ OpenCq 1 1 ∷ picked_of (admin_seen 4 ∷ []) 0
    ∷ Fetch 0 3 (abort 3 1 1) ∷ Fetch 0 2 entry ∷ Fetch 0 1 create_sq ∷ Fetch 0 0 create_cq ∷ []

-- up to the pick of queue 1, and up to that of the Abort command
abbrev pub two_waiting : Sqe → ℕ → Past
two_waiting entry third = picked_of (admin_seen 2 ∷ reads_seen 3 ∷ []) 1 ∷ three_waiting entry third

abbrev pub abort_picked : Sqe → ℕ → Past
abort_picked entry third = picked_of (admin_seen 2 ∷ reads_seen 2 ∷ []) 0 ∷ two_waiting entry third

-- up to the abort, up to its post, up to that of the Abort command, up to the pick of the other Abort command, after one of queue 1, and whole
abbrev pub one_aborted : ℕ → Past
one_aborted third = Abort 1 1 ∷ abort_picked abort_1_1 third

abbrev pub abort_posted : ℕ → Past
abort_posted third = Post 1 1 1 (done 1 1 abort_requested) ∷ one_aborted third

abbrev pub abort_told : ℕ → Past
abort_told third = Post 0 0 2 (told 2 0 success) ∷ abort_posted third

abbrev pub second_picked : ℕ → Past
second_picked third = picked_of (admin_seen 1 ∷ reads_seen 0 ∷ []) 0 ∷ picked_of (admin_seen 1 ∷ reads_seen 1 ∷ []) 1 ∷ abort_told third

abbrev pub both_told : ℕ → Past
both_told third = Post 0 0 3 (told 3 1 success) ∷ Post 1 1 2 (done 1 third success) ∷ Post 1 1 0 (done 1 0 success) ∷ second_picked third

-- ---- an Abort command takes the second of three waiting commands of queue 4 on region 2, and then the queue is deleted while one waits. The
-- rules are those of `four_numbers`

abbrev pub abort_4_13 : Sqe
abort_4_13 = abort 22 4 13

abbrev pub abort_and_delete : List Sqe
abort_and_delete = create_cq_3 ∷ create_sq_4 ∷ abort_4_13 ∷ delete_sq_4 ∷ []

abbrev pub six_reads : List Sqe
six_reads = read 10 ∷ read 11 ∷ read 12 ∷ read 13 ∷ read 14 ∷ read 15 ∷ []

-- the completion of a Read, after all six were fetched
abbrev pub six_done : ℕ → Bool → StatusCode → Cqe
six_done cid phase status = record { dw0 = 0; sqhd = 2; sqid = 4; cid = cid; phase = phase; status = status }

-- in the order of their posts
abbrev pub abort_and_delete_told : List Cqe
abort_and_delete_told = told 20 0 success ∷ told 21 0 success ∷ told 22 0 success ∷ told 23 0 success ∷ []

abbrev pub six_told : List Cqe
six_told =
    six_done 13 true abort_requested ∷ six_done 15 true aborted_by_deletion ∷ six_done 10 false success
    ∷ six_done 11 false success ∷ six_done 12 true success ∷ six_done 14 true success ∷ []

-- the log up to the pick of the Abort command, up to its abort, up to the pick of the Delete, up to its abort, up to the end of the deletion,
-- and whole
abbrev pub abort_4_picked : Past
abort_4_picked =
    picked_of (admin_seen 2 ∷ seen_4 3 ∷ []) 0
    ∷ Fetch 2 4 (read 14) ∷ Fetch 2 3 (read 13) ∷ two_picked_of (admin_seen 2 ∷ seen_4 3 ∷ [])
    ∷ Fetch 2 2 (read 12) ∷ Fetch 2 1 (read 11) ∷ Fetch 2 0 (read 10)
    ∷ Post 0 0 1 (told 21 0 success) ∷ OpenSq 4 2 3 Medium ∷ picked_of (admin_seen 3 ∷ []) 0
    ∷ Post 0 0 0 (told 20 0 success) ∷ OpenCq 3 1 ∷ picked_of (admin_seen 4 ∷ []) 0
    ∷ Fetch 0 3 delete_sq_4 ∷ Fetch 0 2 abort_4_13 ∷ Fetch 0 1 create_sq_4 ∷ Fetch 0 0 create_cq_3 ∷ []

abbrev pub one_aborted_4 : Past
one_aborted_4 = Abort 2 3 ∷ abort_4_picked

abbrev pub delete_after_abort : Past
delete_after_abort = picked_of (admin_seen 1 ∷ seen_4 1 ∷ []) 0 ∷ Fetch 2 5 (read 15) ∷ two_picked_of (admin_seen 1 ∷ seen_4 2 ∷ []) ∷ one_aborted_4

abbrev pub both_aborted : Past
both_aborted = Abort 2 5 ∷ Closing 4 2 ∷ delete_after_abort

abbrev pub both_posted : Past
both_posted =
    ClosedSq 4 2
    ∷ Post 1 2 4 (six_done 14 true success) ∷ Post 1 2 2 (six_done 12 true success) ∷ Post 0 0 2 (told 22 0 success)
    ∷ Post 1 2 1 (six_done 11 false success) ∷ Post 1 2 0 (six_done 10 false success)
    ∷ Post 1 2 5 (six_done 15 true aborted_by_deletion) ∷ Post 1 2 3 (six_done 13 true abort_requested) ∷ both_aborted

abbrev pub abort_and_deleted : Past
abort_and_deleted = Post 0 0 3 (told 23 0 success) ∷ both_posted

-- a pick of one command, and of two
abbrev pub one_of : ℕ → Pick
one_of qid = record { qid = qid; n = 1; fresh = false }

abbrev pub two_of : ℕ → Pick
two_of qid = record { qid = qid; n = 2; fresh = false }
