-- Worked logs, for which the definitions compute (profile).
use Rattle.std.specs.Prelude.{ℕ, ◌==◌, Bool, true, false, if◌then◌else◌, List, [], ◌∷◌}
use Rattle.nvme_entry.specs.Status.{StatusCode, success, aborted_by_deletion}
use Rattle.nvme_entry.specs.declared.submission.Sqe.{Sqe}
use Rattle.nvme_entry.specs.declared.completion.Cqe.{Cqe}
use Rattle.nvme_arbiter.specs.Settings.{settings_of}
use Rattle.nvme_arbiter.specs.declared.settings.Class.TheVariants.{Admin, Urgent}
use Rattle.nvme_arbiter.specs.declared.settings.Mechanism.TheVariants.{Weighted, RoundRobin}
use Rattle.nvme_arbiter.specs.declared.pick.Seen.{Seen}
use Rattle.nvme_admin.specs.History.{Submission, Completion, RegionAdded}
use Rattle.nvme_log.specs.declared.event.Event.{Event}
use Rattle.nvme_log.specs.declared.event.Event.TheVariants.{Fetch, Pick, OpenSq, OpenCq, Closing, Abort, Post, ClosedSq}
use Rattle.nvme_log.specs.Rules.{Past, FrontRules}

-- the value of region 0, and nothing for any other
abbrev pub at_admin : {T : Type 0} → List T → ℕ → List T
at_admin xs r = if 0 == r then xs else []

-- ---- a completion ring of two slots, which is passed twice by four completions

-- settings 03010001h, an admin submission ring of 8 slots and an admin completion ring of 2
abbrev pub two_slots : FrontRules
two_slots = record {
  mechanism = Weighted;
  start = record { nsq = 16; ncq = 16; settings = settings_of 0x03010001 };
  sizes = [];
  regions = RegionAdded Completion 0x8000 2 ∷ RegionAdded Submission 0x1000 8 ∷ [];
}

-- Get Features of Arbitration
abbrev pub get_arbitration : ℕ → Sqe
get_arbitration cid = record {
  opcode = 0x0a;
  flags = 0;
  cid = cid;
  nsid = 0;
  cdw2 = 0;
  cdw3 = 0;
  mptr = 0;
  prp1 = 0;
  prp2 = 0;
  cdw10 = 1;
  cdw11 = 0;
  cdw12 = 0;
  cdw13 = 0;
  cdw14 = 0;
  cdw15 = 0;
}

abbrev pub four_commands : List Sqe
four_commands = get_arbitration 0 ∷ get_arbitration 1 ∷ get_arbitration 2 ∷ get_arbitration 3 ∷ []

-- its completion, after all four were fetched
abbrev pub arbitration_told : ℕ → Bool → Cqe
arbitration_told cid phase = record { dw0 = 0x03010001; sqhd = 4; sqid = 0; cid = cid; phase = phase; status = success }

abbrev pub four_completions : List Cqe
four_completions = arbitration_told 0 true ∷ arbitration_told 1 true ∷ arbitration_told 2 false ∷ arbitration_told 3 false ∷ []

-- the admin queue is picked while this number of its commands waits
abbrev pub admin_picked : ℕ → Event
admin_picked count = Pick (record { qid = 0; class = Admin; count = count } ∷ []) (record { qid = 0; n = 1; fresh = false })

-- the completion of an admin place
abbrev pub admin_posted : ℕ → Bool → Event
admin_posted index phase = Post 0 0 index (arbitration_told index phase)

-- the log up to the last pick, the newest event first, and with `last` as the last completion
abbrev pub last_picked : Past
last_picked =
    admin_picked 1 ∷ admin_posted 2 false ∷ admin_picked 2 ∷ admin_posted 1 true ∷ admin_picked 3 ∷ admin_posted 0 true ∷ admin_picked 4
    ∷ Fetch 0 3 (get_arbitration 3) ∷ Fetch 0 2 (get_arbitration 2) ∷ Fetch 0 1 (get_arbitration 1) ∷ Fetch 0 0 (get_arbitration 0) ∷ []

abbrev pub two_slots_past : Event → Past
two_slots_past last = last ∷ last_picked

-- ---- a submission queue that is deleted while one of its commands runs and two wait

-- the values of regions 0 and 1, and nothing for any other
abbrev pub at_two : {T : Type 0} → List T → List T → ℕ → List T
at_two xs ys r = if 0 == r then xs else (if 1 == r then ys else [])

-- round robin, burst 1, one namespace of 1,000 blocks, two submission and two completion regions
abbrev pub one_deletion : FrontRules
one_deletion = record {
  mechanism = RoundRobin;
  start = record { nsq = 16; ncq = 16; settings = settings_of 0 };
  sizes = 1000 ∷ [];
  regions = RegionAdded Completion 0x9000 64 ∷ RegionAdded Completion 0x8000 16 ∷ RegionAdded Submission 0x2000 8 ∷ RegionAdded Submission 0x1000 16 ∷ [];
}

-- a command by its opcode, its identifier, and the fields that the commands here use
abbrev pub command : (opcode cid nsid prp1 cdw10 cdw11 : ℕ) → Sqe
command opcode cid nsid prp1 cdw10 cdw11 = record {
  opcode = opcode;
  flags = 0;
  cid = cid;
  nsid = nsid;
  cdw2 = 0;
  cdw3 = 0;
  mptr = 0;
  prp1 = prp1;
  prp2 = 0;
  cdw10 = cdw10;
  cdw11 = cdw11;
  cdw12 = 0;
  cdw13 = 0;
  cdw14 = 0;
  cdw15 = 0;
}

-- Create I/O Completion Queue 1, Create I/O Submission Queue 1, Delete I/O Submission Queue 1
abbrev pub create_cq : Sqe
create_cq = command 5 0 0 0x9000 0x003f0001 1

abbrev pub create_sq : Sqe
create_sq = command 1 1 0 0x2000 0x00070001 0x00010001

abbrev pub delete_sq : Sqe
delete_sq = command 0 2 0 0 1 0

abbrev pub admin_script : List Sqe
admin_script = create_cq ∷ create_sq ∷ delete_sq ∷ []

-- a Read of one block
abbrev pub read : ℕ → Sqe
read cid = command 2 cid 1 0 0 0

abbrev pub reads : List Sqe
reads = read 0 ∷ read 1 ∷ read 2 ∷ []

-- the completion of a command after three were fetched from its region
abbrev pub done : (sqid cid : ℕ) → StatusCode → Cqe
done sqid cid status = record { dw0 = 0; sqhd = 3; sqid = sqid; cid = cid; phase = true; status = status }

abbrev pub admin_done : List Cqe
admin_done = done 0 0 success ∷ done 0 1 success ∷ done 0 2 success ∷ []

-- in the order of their posts
abbrev pub reads_done : List Cqe
reads_done = done 1 1 aborted_by_deletion ∷ done 1 2 aborted_by_deletion ∷ done 1 0 success ∷ []

abbrev pub admin_seen : ℕ → Seen
admin_seen count = record { qid = 0; class = Admin; count = count }

abbrev pub reads_seen : ℕ → Seen
reads_seen count = record { qid = 1; class = Urgent; count = count }

-- a pick of one command
abbrev pub picked_of : List Seen → ℕ → Event
picked_of seen qid = Pick seen (record { qid = qid; n = 1; fresh = false })

-- the log up to the first pick, up to the opening of queue 1, up to the answer to its Create, up to the fetches from it, up to its pick,
-- up to the pick of the Delete, up to its aborts, up to the posts of queue 1, up to the end of the deletion, and whole
abbrev pub admin_fetched : Past
admin_fetched = Fetch 0 2 delete_sq ∷ Fetch 0 1 create_sq ∷ Fetch 0 0 create_cq ∷ []

abbrev pub queue_created : Past
queue_created =
    OpenSq 1 1 1 Urgent ∷ picked_of (admin_seen 2 ∷ []) 0
    ∷ Post 0 0 0 (done 0 0 success) ∷ OpenCq 1 1 ∷ picked_of (admin_seen 3 ∷ []) 0 ∷ admin_fetched

abbrev pub queue_opened : Past
queue_opened = Post 0 0 1 (done 0 1 success) ∷ queue_created

abbrev pub reads_fetched : Past
reads_fetched = Fetch 1 2 (read 2) ∷ Fetch 1 1 (read 1) ∷ Fetch 1 0 (read 0) ∷ queue_opened

abbrev pub one_picked : Past
one_picked = picked_of (admin_seen 1 ∷ reads_seen 3 ∷ []) 1 ∷ reads_fetched

abbrev pub delete_picked : Past
delete_picked = picked_of (admin_seen 1 ∷ reads_seen 2 ∷ []) 0 ∷ one_picked

abbrev pub closing : Past
closing = Abort 1 2 ∷ Abort 1 1 ∷ Closing 1 1 ∷ delete_picked

abbrev pub aborted_posted : Past
aborted_posted = Post 1 1 2 (done 1 2 aborted_by_deletion) ∷ Post 1 1 1 (done 1 1 aborted_by_deletion) ∷ closing

abbrev pub all_posted : Past
all_posted = Post 1 1 0 (done 1 0 success) ∷ aborted_posted

abbrev pub closed : Past
closed = ClosedSq 1 1 ∷ all_posted

abbrev pub deleted : Past
deleted = Post 0 0 2 (done 0 2 success) ∷ closed

-- the own completion of the Read that was picked
abbrev pub read_done : Cqe
read_done = done 1 0 success

-- a window of seven is full: region 1 has 8 slots, and seven of its Reads wait
abbrev pub window_filled : Past
window_filled = Fetch 1 6 (read 6) ∷ Fetch 1 5 (read 5) ∷ Fetch 1 4 (read 4) ∷ Fetch 1 3 (read 3) ∷ reads_fetched
