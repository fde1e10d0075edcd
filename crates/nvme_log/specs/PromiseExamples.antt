-- Worked logs that break a sentence of the promise, one each (profile). The rules are those of `one_deletion`.
use Rattle.std.specs.Prelude.{List, [], ◌∷◌, ◌++◌, false}
use Rattle.nvme_entry.specs.Status.{success, aborted_by_deletion}
use Rattle.nvme_entry.specs.declared.submission.Sqe.{Sqe}
use Rattle.nvme_entry.specs.declared.completion.Cqe.{Cqe}
use Rattle.nvme_arbiter.specs.Settings.{settings_of}
use Rattle.nvme_log.specs.declared.event.Event.TheVariants.{Fetch, Pick, SetArbitration, Closing, Abort, Post, ClosedSq}
use Rattle.nvme_log.specs.Rules.{Past}
use Rattle.nvme_log.specs.Examples.{read, done, admin_done, admin_seen, reads_seen, picked_of, read_done, queue_opened, reads_fetched, one_picked, delete_picked}

-- ---- a Delete is answered while its queue stays open, and then a Read is fetched from it, picked and answered
abbrev pub one_read : List Sqe
one_read = read 0 ∷ []

-- its completion, after one was fetched
abbrev pub one_read_done : Cqe
one_read_done = record read_done { sqhd = 1 }

-- the log up to the pick of the Delete, up to its answer, and whole
abbrev pub unclosed_picked : Past
unclosed_picked = picked_of (admin_seen 1 ∷ reads_seen 0 ∷ []) 0 ∷ queue_opened

abbrev pub unclosed_answered : Past
unclosed_answered = Post 0 0 2 (done 0 2 success) ∷ unclosed_picked

abbrev pub unclosed : Past
unclosed = Post 1 1 0 one_read_done ∷ picked_of (admin_seen 0 ∷ reads_seen 1 ∷ []) 1 ∷ Fetch 1 0 (read 0) ∷ unclosed_answered

-- ---- a completion is collected that was never posted
abbrev pub one_too_many : List Cqe
one_too_many = admin_done ++ done 0 2 success ∷ []

-- ---- the burst is set to 2 by no command, and then two Reads are picked at once; the third is aborted with its queue
abbrev pub unasked_set : Past
unasked_set = SetArbitration (settings_of 1) ∷ reads_fetched

abbrev pub unasked : Past
unasked =
    Post 0 0 2 (done 0 2 success) ∷ ClosedSq 1 1
    ∷ Post 1 1 1 (done 1 1 success) ∷ Post 1 1 0 read_done ∷ Post 1 1 2 (done 1 2 aborted_by_deletion)
    ∷ Abort 1 2 ∷ Closing 1 1 ∷ picked_of (admin_seen 1 ∷ reads_seen 1 ∷ []) 0
    ∷ Pick (admin_seen 1 ∷ reads_seen 3 ∷ []) (record { qid = 1; n = 2; fresh = false }) ∷ unasked_set

abbrev pub unasked_done : List Cqe
unasked_done = done 1 2 aborted_by_deletion ∷ read_done ∷ done 1 1 success ∷ []

-- ---- a Delete aborts one of the two Reads that wait
abbrev pub abort_missing : Past
abort_missing = Abort 1 1 ∷ Closing 1 1 ∷ delete_picked

-- ---- a Read is answered before it is picked
abbrev pub answered_early : Past
answered_early = picked_of (admin_seen 1 ∷ reads_seen 3 ∷ []) 1 ∷ Post 1 1 0 read_done ∷ reads_fetched

-- ---- a Read is aborted after it was picked
abbrev pub aborted_late : Past
aborted_late = Abort 1 0 ∷ one_picked
