-- A worked log in which a queue, its region, its completion queue and that queue's region have four different numbers.
-- Two commands are picked at once, then the settings change; the queue is deleted, and then its completion queue. (Base
-- Specification, Create and Delete I/O Submission and Completion Queue, Set Features, Command Arbitration)
use Rattle.std.specs.Prelude.{ℕ, ◌==◌, Bool, true, false, if◌then◌else◌, List, [], ◌∷◌}
use Rattle.nvme_entry.specs.Status.{StatusCode, success, aborted_by_deletion}
use Rattle.nvme_entry.specs.declared.submission.Sqe.{Sqe}
use Rattle.nvme_entry.specs.declared.completion.Cqe.{Cqe}
use Rattle.nvme_arbiter.specs.Settings.{settings_of}
use Rattle.nvme_arbiter.specs.declared.settings.Class.TheVariants.{Medium}
use Rattle.nvme_arbiter.specs.declared.settings.Mechanism.TheVariants.{RoundRobin}
use Rattle.nvme_arbiter.specs.declared.pick.Seen.{Seen}
use Rattle.nvme_admin.specs.History.{Submission, Completion, RegionAdded}
use Rattle.nvme_log.specs.declared.event.Event.{Event}
use Rattle.nvme_log.specs.declared.event.Event.TheVariants.{Fetch, Pick, SetArbitration, OpenSq, OpenCq, Closing, Abort, Post, ClosedSq, ClosedCq}
use Rattle.nvme_log.specs.Rules.{Past, FrontRules}
use Rattle.nvme_log.specs.Examples.{command, read, admin_seen, picked_of}

-- round robin, burst 2, one namespace of 1,000 blocks, three submission and two completion regions. Four Reads go once
-- round the ring of region 2, and their completions twice round that of completion region 1
abbrev pub four_numbers : FrontRules
four_numbers = record {
  mechanism = RoundRobin;
  start = record { nsq = 16; ncq = 16; settings = settings_of 1 };
  sizes = 1000 ∷ [];
  regions = RegionAdded Completion 0x9000 2 ∷ RegionAdded Completion 0x8000 16 ∷ RegionAdded Submission 0x3000 4 ∷ RegionAdded Submission 0x2000 8 ∷ RegionAdded Submission 0x1000 16 ∷ [];
}

-- Create I/O Completion Queue 3 on completion region 1, Create I/O Submission Queue 4 on submission region 2, Set
-- Features of Arbitration to burst 1, and both Deletes
abbrev pub create_cq_3 : Sqe
create_cq_3 = command 5 20 0 0x9000 0x00010003 1

abbrev pub create_sq_4 : Sqe
create_sq_4 = command 1 21 0 0x3000 0x00030004 0x00030005

abbrev pub set_burst : Sqe
set_burst = command 9 22 0 0 1 0

abbrev pub delete_sq_4 : Sqe
delete_sq_4 = command 0 23 0 0 4 0

abbrev pub delete_cq_3 : Sqe
delete_cq_3 = command 4 24 0 0 3 0

abbrev pub admin_five : List Sqe
admin_five = create_cq_3 ∷ create_sq_4 ∷ set_burst ∷ delete_sq_4 ∷ delete_cq_3 ∷ []

abbrev pub four_reads : List Sqe
four_reads = read 10 ∷ read 11 ∷ read 12 ∷ read 13 ∷ []

-- the values of regions 0 and 2, and nothing for any other
abbrev pub at_zero_and_two : {T : Type 0} → List T → List T → ℕ → List T
at_zero_and_two xs ys r = if 0 == r then xs else (if 2 == r then ys else [])

-- the completion of an admin command, after all five were fetched, and of a Read, after all four were
abbrev pub five_done : ℕ → Cqe
five_done cid = record { dw0 = 0; sqhd = 5; sqid = 0; cid = cid; phase = true; status = success }

abbrev pub four_done : ℕ → Bool → StatusCode → Cqe
four_done cid phase status = record { dw0 = 0; sqhd = 0; sqid = 4; cid = cid; phase = phase; status = status }

-- in the order of their posts
abbrev pub five_told : List Cqe
five_told = five_done 20 ∷ five_done 21 ∷ five_done 22 ∷ five_done 23 ∷ five_done 24 ∷ []

abbrev pub four_told : List Cqe
four_told = four_done 13 true aborted_by_deletion ∷ four_done 10 true success ∷ four_done 11 false success ∷ four_done 12 false success ∷ []

abbrev pub seen_4 : ℕ → Seen
seen_4 count = record { qid = 4; class = Medium; count = count }

-- two commands of queue 4 are picked at once
abbrev pub two_picked_of : List Seen → Event
two_picked_of seen = Pick seen (record { qid = 4; n = 2; fresh = false })

-- the log up to the fetches from queue 4, up to the pick of two, up to the answer to the change of settings, up to the
-- next pick, up to the pick of the Delete, up to its abort, up to the posts of queue 4, up to the end of the deletion,
-- up to the pick of the other Delete, and whole
abbrev pub three_fetched : Past
three_fetched =
    Fetch 2 2 (read 12) ∷ Fetch 2 1 (read 11) ∷ Fetch 2 0 (read 10)
    ∷ Post 0 0 1 (five_done 21) ∷ OpenSq 4 2 3 Medium ∷ picked_of (admin_seen 4 ∷ []) 0
    ∷ Post 0 0 0 (five_done 20) ∷ OpenCq 3 1 ∷ picked_of (admin_seen 5 ∷ []) 0
    ∷ Fetch 0 4 delete_cq_3 ∷ Fetch 0 3 delete_sq_4 ∷ Fetch 0 2 set_burst ∷ Fetch 0 1 create_sq_4 ∷ Fetch 0 0 create_cq_3 ∷ []

abbrev pub two_picked : Past
two_picked = two_picked_of (admin_seen 3 ∷ seen_4 3 ∷ []) ∷ three_fetched

abbrev pub burst_set : Past
burst_set = Post 0 0 2 (five_done 22) ∷ SetArbitration (settings_of 0) ∷ picked_of (admin_seen 3 ∷ seen_4 1 ∷ []) 0 ∷ two_picked

abbrev pub one_more_picked : Past
one_more_picked = picked_of (admin_seen 2 ∷ seen_4 2 ∷ []) 4 ∷ Fetch 2 3 (read 13) ∷ burst_set

abbrev pub delete_4_picked : Past
delete_4_picked = picked_of (admin_seen 2 ∷ seen_4 1 ∷ []) 0 ∷ one_more_picked

abbrev pub closing_4 : Past
closing_4 = Abort 2 3 ∷ Closing 4 2 ∷ delete_4_picked

abbrev pub posted_4 : Past
posted_4 =
    Post 1 2 2 (four_done 12 false success) ∷ Post 1 2 1 (four_done 11 false success) ∷ Post 1 2 0 (four_done 10 true success) ∷ Post 1 2 3 (four_done 13 true aborted_by_deletion) ∷ closing_4

abbrev pub closed_4 : Past
closed_4 = ClosedSq 4 2 ∷ posted_4

abbrev pub delete_3_picked : Past
delete_3_picked = picked_of (admin_seen 1 ∷ []) 0 ∷ Post 0 0 3 (five_done 23) ∷ closed_4

abbrev pub all_closed : Past
all_closed = Post 0 0 4 (five_done 24) ∷ ClosedCq 3 1 ∷ delete_3_picked

-- the same without its last post, and what was collected of either region without its last completion
abbrev pub last_unposted : Past
last_unposted = ClosedCq 3 1 ∷ delete_3_picked

abbrev pub five_told_first : List Cqe
five_told_first = five_done 20 ∷ five_done 21 ∷ five_done 22 ∷ five_done 23 ∷ []

abbrev pub four_told_first : List Cqe
four_told_first = four_done 13 true aborted_by_deletion ∷ four_done 10 true success ∷ four_done 11 false success ∷ []
