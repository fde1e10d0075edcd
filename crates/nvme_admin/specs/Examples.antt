-- Worked table histories, for which the definitions compute.
-- (Base Specification, Create and Delete I/O Submission and Completion Queue, Get and Set Features)
use Rattle.std.specs.Prelude.{◌≡◌, ℕ, ◌+◌, ◌*◌, true, false, List, [], ◌∷◌, map, Some, None}
use Rattle.nvme_entry.specs.Status.{StatusCode, success, invalid_opcode, invalid_field, sequence_error, completion_queue_invalid, invalid_queue_identifier, invalid_queue_size, invalid_queue_deletion, feature_not_saveable}
use Rattle.nvme_entry.specs.declared.submission.Sqe.{Sqe}
use Rattle.nvme_arbiter.specs.Settings.{settings_of}
use Rattle.nvme_arbiter.specs.declared.settings.Class.TheVariants.{Urgent, High, Medium, Low}
use Rattle.nvme_admin.specs.declared.verdict.Verdict.TheVariants.{Done, OpenSq, OpenCq, BeginDelete, CloseCq, Abort, SetArbitration}
use Rattle.nvme_admin.specs.History.{Start, Placing, TableHistory, Submission, Completion, RegionAdded, EntryApplied, DeletionFinished, PlacedAnywhere}
use Rattle.nvme_admin.specs.Accepted.{queue_table, status_of, dw0_of, verdict_of, sq_at, cq_at, nsq_at, ncq_at, settings_at}
use Rattle.nvme_admin.specs.Changes.{admin_queue}
use Rattle.nvme_admin.specs.Placing.{prp_offset_invalid, invalid_interrupt_vector, interrupts_of, vector_of}

-- an entry by its opcode, its flags, PRP1 and Command Dwords 10 and 11
abbrev pub entry_of : (opcode flags prp1 cdw10 cdw11 : ℕ) → Sqe
entry_of opcode flags prp1 cdw10 cdw11 = record {
  opcode = opcode;
  flags = flags;
  cid = 0;
  nsid = 0;
  cdw2 = 0;
  cdw3 = 0;
  mptr = 0;
  prp1 = prp1;
  prp2 = 0;
  cdw10 = cdw10;
  cdw11 = cdw11;
  cdw12 = 0;
  cdw13 = 0;
  cdw14 = 0;
  cdw15 = 0;
}

abbrev pub delete_sq : ℕ → Sqe
delete_sq qid = entry_of 0x00 0 0 qid 0

-- `pc` is 1 or 0
abbrev pub create_sq : (qid qsize prp1 cqid qprio pc : ℕ) → Sqe
create_sq qid qsize prp1 cqid qprio pc = entry_of 0x01 0 prp1 (qid + 0x10000 * qsize) (pc + 2 * qprio + 0x10000 * cqid)

abbrev pub delete_cq : ℕ → Sqe
delete_cq qid = entry_of 0x04 0 0 qid 0

-- `cdw11` has PC in bit 0, IEN in bit 1 and IV in bits 31:16
abbrev pub create_cq : (qid qsize prp1 cdw11 : ℕ) → Sqe
create_cq qid qsize prp1 cdw11 = entry_of 0x05 0 prp1 (qid + 0x10000 * qsize) cdw11

abbrev pub set_feature : (fid cdw11 : ℕ) → Sqe
set_feature fid cdw11 = entry_of 0x09 0 0 fid cdw11

-- the same with Save
abbrev pub save_feature : (fid cdw11 : ℕ) → Sqe
save_feature fid cdw11 = entry_of 0x09 0 0 (0x80000000 + fid) cdw11

abbrev pub get_feature : ℕ → Sqe
get_feature fid = entry_of 0x0a 0 0 fid 0

abbrev pub abort : (sqid cid : ℕ) → Sqe
abort sqid cid = entry_of 0x08 0 0 (sqid + 0x10000 * cid) 0

-- an entry, and the status that answers it
pub record Case : Type 0 where
  pub entry : Sqe
  pub status : StatusCode

abbrev pub gives : Sqe → StatusCode → Case
gives entry status = record { entry = entry; status = status }

-- each entry is answered with its status, were it applied after a history
abbrev pub AreAnswered : Start → TableHistory → List Case → Type 0
AreAnswered start h cases = map {A = Case} {B = StatusCode} (λ c. status_of start h c.entry) cases ≡ map {A = Case} {B = StatusCode} (λ c. c.status) cases

-- at most four I/O submission queues and three I/O completion queues
abbrev pub four_and_three : Start
four_and_three = record { nsq = 4; ncq = 3; settings = settings_of 0x03010001 }

-- five submission regions and three completion regions
abbrev pub regions_added : TableHistory
regions_added =
    RegionAdded Completion 0xa000 32 ∷ RegionAdded Completion 0x9000 64 ∷ RegionAdded Completion 0x8000 16
    ∷ RegionAdded Submission 0x5000 8 ∷ RegionAdded Submission 0x4000 8 ∷ RegionAdded Submission 0x3000 8 ∷ RegionAdded Submission 0x2000 8 ∷ RegionAdded Submission 0x1000 16
    ∷ []

-- completion queue 1 is open, and of the two submission queues that are attached to it 1 is open and 2 closing
abbrev pub queues_made : TableHistory
queues_made =
    EntryApplied (delete_sq 2) ∷ EntryApplied (create_sq 2 7 0x3000 1 3 1) ∷ EntryApplied (create_sq 1 7 0x2000 1 1 1) ∷ EntryApplied (create_cq 1 63 0x9000 1)
    ∷ regions_added

-- both are closing
abbrev pub both_closing : TableHistory
both_closing = EntryApplied (delete_sq 1) ∷ queues_made

-- both are gone
abbrev pub both_finished : TableHistory
both_finished = DeletionFinished 2 ∷ DeletionFinished 1 ∷ both_closing

-- ---- the rows of each command, each way to match one, and entries that match a row and the next

abbrev pub create_cq_cases : List Case
create_cq_cases =
    gives (create_cq 2 31 0xa000 1) success
    ∷ gives (create_cq 3 31 0xa000 0x00050003) success
    ∷ gives (create_cq 2 31 0xa000 0) invalid_field
    ∷ gives (create_cq 0 31 0xa000 0) invalid_field
    ∷ gives (create_cq 0 31 0xa000 1) invalid_queue_identifier
    ∷ gives (create_cq 4 31 0xa000 1) invalid_queue_identifier
    ∷ gives (create_cq 1 31 0xa000 1) invalid_queue_identifier
    ∷ gives (create_cq 4 0 0xa000 1) invalid_queue_identifier
    ∷ gives (create_cq 2 0 0xa000 1) invalid_queue_size
    ∷ gives (create_cq 2 4096 0xa000 1) invalid_queue_size
    ∷ gives (create_cq 2 0 0xb000 1) invalid_queue_size
    ∷ gives (create_cq 2 4095 0xa000 1) invalid_field
    ∷ gives (create_cq 2 256 0xa000 1) invalid_field
    ∷ gives (create_cq 2 30 0xa000 1) invalid_field
    ∷ gives (create_cq 2 31 0xb000 1) invalid_field
    ∷ gives (create_cq 2 63 0x9000 1) invalid_field
    ∷ gives (create_cq 2 15 0x8000 1) invalid_field
    ∷ gives (create_cq 2 7 0x4000 1) invalid_field
    ∷ []

abbrev pub create_sq_cases : List Case
create_sq_cases =
    gives (create_sq 3 7 0x4000 1 0 1) success
    ∷ gives (create_sq 4 7 0x5000 1 2 1) success
    ∷ gives (create_sq 3 7 0x4000 1 0 0) invalid_field
    ∷ gives (create_sq 0 7 0x4000 1 0 0) invalid_field
    ∷ gives (create_sq 0 7 0x4000 1 0 1) invalid_queue_identifier
    ∷ gives (create_sq 5 7 0x4000 1 0 1) invalid_queue_identifier
    ∷ gives (create_sq 1 7 0x4000 1 0 1) invalid_queue_identifier
    ∷ gives (create_sq 2 7 0x4000 1 0 1) invalid_queue_identifier
    ∷ gives (create_sq 5 0 0x4000 1 0 1) invalid_queue_identifier
    ∷ gives (create_sq 3 0 0x4000 1 0 1) invalid_queue_size
    ∷ gives (create_sq 3 4096 0x4000 1 0 1) invalid_queue_size
    ∷ gives (create_sq 3 0 0x4000 0 0 1) invalid_queue_size
    ∷ gives (create_sq 3 7 0x4000 0 0 1) invalid_queue_identifier
    ∷ gives (create_sq 3 7 0x4000 4 0 1) invalid_queue_identifier
    ∷ gives (create_sq 3 7 0xb000 0 0 1) invalid_queue_identifier
    ∷ gives (create_sq 3 7 0x4000 2 0 1) completion_queue_invalid
    ∷ gives (create_sq 3 7 0xb000 2 0 1) completion_queue_invalid
    ∷ gives (create_sq 3 4095 0x4000 1 0 1) invalid_field
    ∷ gives (create_sq 3 256 0x4000 1 0 1) invalid_field
    ∷ gives (create_sq 3 6 0x4000 1 0 1) invalid_field
    ∷ gives (create_sq 3 7 0xb000 1 0 1) invalid_field
    ∷ gives (create_sq 3 7 0x2000 1 0 1) invalid_field
    ∷ gives (create_sq 3 7 0x3000 1 0 1) invalid_field
    ∷ gives (create_sq 3 15 0x1000 1 0 1) invalid_field
    ∷ gives (create_sq 3 31 0xa000 1 0 1) invalid_field
    ∷ []

abbrev pub delete_sq_cases : List Case
delete_sq_cases =
    gives (delete_sq 1) success
    ∷ gives (delete_sq 0) invalid_queue_identifier
    ∷ gives (delete_sq 2) invalid_queue_identifier
    ∷ gives (delete_sq 3) invalid_queue_identifier
    ∷ []

-- the admin submission queue is attached to completion queue 0
abbrev pub delete_cq_cases : List Case
delete_cq_cases =
    gives (delete_cq 0) invalid_queue_identifier
    ∷ gives (delete_cq 2) invalid_queue_identifier
    ∷ gives (delete_cq 1) invalid_queue_deletion
    ∷ []

-- before a Create
abbrev pub request_cases : List Case
request_cases =
    gives (set_feature 7 0x00010001) success
    ∷ gives (set_feature 7 0xfffefffe) success
    ∷ gives (set_feature 7 0x0001ffff) invalid_field
    ∷ gives (set_feature 7 0xffff0001) invalid_field
    ∷ gives (save_feature 7 0x0001ffff) feature_not_saveable
    ∷ []

-- after a Create
abbrev pub set_feature_cases : List Case
set_feature_cases =
    gives (set_feature 1 0xffffffff) success
    ∷ gives (set_feature 2 0) invalid_field
    ∷ gives (save_feature 2 0) invalid_field
    ∷ gives (save_feature 1 0) feature_not_saveable
    ∷ gives (save_feature 7 0) feature_not_saveable
    ∷ gives (set_feature 7 0) sequence_error
    ∷ gives (set_feature 7 0xffffffff) sequence_error
    ∷ []

abbrev pub get_feature_cases : List Case
get_feature_cases =
    gives (get_feature 1) success
    ∷ gives (get_feature 7) success
    ∷ gives (get_feature 0) invalid_field
    ∷ gives (get_feature 2) invalid_field
    ∷ []

-- other opcodes, and FUSE: it alone of the flags is checked, and before all else
abbrev pub other_cases : List Case
other_cases =
    gives (entry_of 0x06 0 0 0 0) invalid_opcode
    ∷ gives (entry_of 0x0c 0 0 0 0) invalid_opcode
    ∷ gives (entry_of 0x0c 1 0 0 0) invalid_field
    ∷ gives (abort 0 0) success
    ∷ gives (abort 9 0xffff) success
    ∷ gives (entry_of 0x08 1 0 1 0) invalid_field
    ∷ gives (entry_of 0x00 1 0 1 0) invalid_field
    ∷ gives (entry_of 0x00 2 0 0 0) invalid_field
    ∷ gives (entry_of 0x00 0x40 0 1 0) success
    ∷ []

-- ---- what stands after these histories

-- the queues with their regions, and the regions that are used
pub record QueuesAreMade : Type 0 where
  pub admin : sq_at four_and_three queues_made 0 ≡ Some admin_queue
  pub one : sq_at four_and_three queues_made 1 ≡ Some (record { region = 1; cqid = 1; class = High; closing = false })
  pub two : sq_at four_and_three queues_made 2 ≡ Some (record { region = 2; cqid = 1; class = Low; closing = true })
  pub three : sq_at four_and_three queues_made 3 ≡ None
  pub cqs : map (cq_at four_and_three queues_made) (0 ∷ 1 ∷ 2 ∷ []) ≡ Some 0 ∷ Some 1 ∷ None ∷ []
  pub sqs_used : map (queue_table four_and_three queues_made).sq_region_used (0 ∷ 1 ∷ 2 ∷ 3 ∷ 4 ∷ []) ≡ true ∷ true ∷ true ∷ false ∷ false ∷ []
  pub cqs_used : map (queue_table four_and_three queues_made).cq_region_used (0 ∷ 1 ∷ 2 ∷ []) ≡ true ∷ true ∷ false ∷ []
  pub created : (queue_table four_and_three queues_made).created ≡ true
  pub none_before : (queue_table four_and_three regions_added).created ≡ false
  pub no_numbers : (queue_table four_and_three queues_made).numbers_set ≡ false

-- a finished deletion frees the identifier and not the region, and a queue that isn't closing stays
pub record DeletionsFinish : Type 0 where
  pub both_gone : map (sq_at four_and_three both_finished) (1 ∷ 2 ∷ []) ≡ None ∷ None ∷ []
  pub still_used : map (queue_table four_and_three both_finished).sq_region_used (1 ∷ 2 ∷ []) ≡ true ∷ true ∷ []
  pub open_stays : sq_at four_and_three (DeletionFinished 1 ∷ queues_made) 1 ≡ sq_at four_and_three queues_made 1
  pub used_again : sq_at four_and_three (EntryApplied (create_sq 2 7 0x4000 1 2 1) ∷ both_finished) 2
      ≡ Some (record { region = 3; cqid = 1; class = Medium; closing = false })
  pub urgent : sq_at four_and_three (EntryApplied (create_sq 1 7 0x5000 1 0 1) ∷ both_finished) 1
      ≡ Some (record { region = 4; cqid = 1; class = Urgent; closing = false })
  pub attached_till_then : status_of four_and_three both_closing (delete_cq 1) ≡ invalid_queue_deletion
  pub then_free : status_of four_and_three both_finished (delete_cq 1) ≡ success
  pub cq_gone : cq_at four_and_three (EntryApplied (delete_cq 1) ∷ both_finished) 1 ≡ None
  pub refused_changes_nothing : cq_at four_and_three (EntryApplied (delete_cq 1) ∷ both_closing) 1 ≡ Some 1

-- the first accepted request for Number of Queues fixes the allotted numbers, each within its limit
abbrev pub requested : TableHistory
requested = EntryApplied (set_feature 7 0x00000002) ∷ regions_added

pub record NumbersAreFixed : Type 0 where
  pub before : (nsq_at four_and_three regions_added ≡ 4) × (ncq_at four_and_three regions_added ≡ 3)
  pub fixed : (nsq_at four_and_three requested ≡ 3) × (ncq_at four_and_three requested ≡ 1)
  pub is_set : (queue_table four_and_three requested).numbers_set ≡ true
  pub answered : dw0_of four_and_three regions_added (set_feature 7 0x00000002) ≡ 0x00000002
  pub within_limits : dw0_of four_and_three regions_added (set_feature 7 0x00070007) ≡ 0x00020003
  pub second_is_answered : dw0_of four_and_three requested (set_feature 7 0x00010001) ≡ 0x00000002
  pub second_changes_nothing : nsq_at four_and_three (EntryApplied (set_feature 7 0x00010001) ∷ requested) ≡ 3
  pub told : dw0_of four_and_three requested (get_feature 7) ≡ 0x00000002
  pub beyond : status_of four_and_three requested (create_cq 2 31 0xa000 1) ≡ invalid_queue_identifier
  pub refused_is_zero : dw0_of four_and_three queues_made (set_feature 7 0x00010001) ≡ 0

-- the latest accepted Set of Arbitration is in force, and before any the first settings. Reserved bits are told as 0
abbrev pub set_twice : TableHistory
set_twice = EntryApplied (set_feature 1 0x0a0b0cff) ∷ EntryApplied (set_feature 1 0x01020304) ∷ regions_added

pub record SettingsAreKept : Type 0 where
  pub first_ones : settings_at four_and_three regions_added ≡ settings_of 0x03010001
  pub latest : settings_at four_and_three set_twice ≡ settings_of 0x0a0b0cff
  pub told_first : dw0_of four_and_three regions_added (get_feature 1) ≡ 0x03010001
  pub told_latest : dw0_of four_and_three set_twice (get_feature 1) ≡ 0x0a0b0c07
  pub answered : dw0_of four_and_three regions_added (set_feature 1 0x01020304) ≡ 0
  pub refused_changes_nothing : settings_at four_and_three (EntryApplied (save_feature 1 0x01020304) ∷ set_twice) ≡ settings_of 0x0a0b0cff

-- the verdict on each command
pub record CommandsComeTo : Type 0 where
  pub opens_sq : verdict_of four_and_three queues_made (create_sq 3 7 0x5000 1 2 1) ≡ OpenSq 3 4 1 Medium
  pub opens_cq : verdict_of four_and_three queues_made (create_cq 3 31 0xa000 1) ≡ OpenCq 3 2
  pub begins : verdict_of four_and_three queues_made (delete_sq 1) ≡ BeginDelete 1
  pub closes : verdict_of four_and_three both_finished (delete_cq 1) ≡ CloseCq 1
  pub aborts : verdict_of four_and_three queues_made (abort 1 5) ≡ Abort 1 5
  pub sets : verdict_of four_and_three queues_made (set_feature 1 0x01020304) ≡ SetArbitration (settings_of 0x01020304)
  pub numbers : verdict_of four_and_three regions_added (set_feature 7 0x00070007) ≡ Done success 0x00020003
  pub gets : verdict_of four_and_three queues_made (get_feature 1) ≡ Done success 0x03010001
  pub refused : verdict_of four_and_three queues_made (delete_cq 1) ≡ Done invalid_queue_deletion 0

-- ---- queues that lie anywhere

-- pages of 4096 bytes, queues of at most 64 slots, and two interrupt vectors
abbrev pub two_vectors : Placing
two_vectors = record { page = 4096; mqes = 63; vectors = 2 }

-- the admin queues have the only regions
abbrev pub placed : TableHistory
placed = PlacedAnywhere two_vectors ∷ RegionAdded Completion 0x8000 16 ∷ RegionAdded Submission 0x1000 16 ∷ []

-- two completion queues and a submission queue, all at one address
abbrev pub one_address : TableHistory
one_address =
    EntryApplied (create_sq 1 7 0x20000 1 1 1) ∷ EntryApplied (create_cq 2 15 0x20000 1) ∷ EntryApplied (create_cq 1 63 0x20000 1)
    ∷ placed

-- a second submission queue there, and the first one deleted and created again with more slots
abbrev pub created_again : TableHistory
created_again =
    EntryApplied (create_sq 1 15 0x20000 2 0 1) ∷ DeletionFinished 1 ∷ EntryApplied (delete_sq 1) ∷ EntryApplied (create_sq 2 7 0x20000 1 2 1)
    ∷ one_address

-- each way to fail a row, then entries that fail a row and the next, and then the rows that are left of the command
abbrev pub placed_cq_cases : List Case
placed_cq_cases =
    gives (create_cq 3 63 0x20000 1) success
    ∷ gives (create_cq 3 63 0x20000 0x00010003) success
    ∷ gives (create_cq 3 1 0 1) success
    ∷ gives (create_cq 3 15 0x8000 1) success
    ∷ gives (create_cq 3 64 0x20000 1) invalid_queue_size
    ∷ gives (create_cq 3 63 0x20001 1) prp_offset_invalid
    ∷ gives (create_cq 3 63 0x20800 1) prp_offset_invalid
    ∷ gives (create_cq 3 63 0x20000 0x00020003) invalid_interrupt_vector
    ∷ gives (create_cq 3 63 0x20000 0x00020001) invalid_interrupt_vector
    ∷ gives (entry_of 0x05 1 0x20800 (3 + 0x10000 * 64) 1) invalid_field
    ∷ gives (create_cq 3 64 0x20800 0x00020001) invalid_queue_size
    ∷ gives (create_cq 3 63 0x20800 0x00020001) prp_offset_invalid
    ∷ gives (create_cq 3 63 0x20000 0x00020000) invalid_interrupt_vector
    ∷ gives (create_cq 3 63 0x20000 0) invalid_field
    ∷ gives (create_cq 1 63 0x20000 1) invalid_queue_identifier
    ∷ gives (create_cq 3 0 0x20000 1) invalid_queue_size
    ∷ []

-- CQID stands where a completion queue's vector does
abbrev pub placed_sq_cases : List Case
placed_sq_cases =
    gives (create_sq 2 63 0x20000 2 0 1) success
    ∷ gives (create_sq 2 1 0 1 0 1) success
    ∷ gives (create_sq 2 64 0x20000 2 0 1) invalid_queue_size
    ∷ gives (create_sq 2 63 0x20001 2 0 1) prp_offset_invalid
    ∷ gives (create_sq 2 63 0x20800 2 0 1) prp_offset_invalid
    ∷ gives (entry_of 0x01 1 0x20800 (2 + 0x10000 * 64) 1) invalid_field
    ∷ gives (create_sq 2 64 0x20800 2 0 1) invalid_queue_size
    ∷ gives (create_sq 2 63 0x20800 2 0 0) prp_offset_invalid
    ∷ gives (create_sq 2 63 0x20000 2 0 0) invalid_field
    ∷ gives (create_sq 1 63 0x20000 2 0 1) invalid_queue_identifier
    ∷ gives (create_sq 2 0 0x20000 2 0 1) invalid_queue_size
    ∷ gives (create_sq 2 63 0x20000 3 0 1) completion_queue_invalid
    ∷ []

-- the other commands have no further row
abbrev pub placed_other_cases : List Case
placed_other_cases =
    gives (delete_sq 1) success
    ∷ gives (delete_sq 2) invalid_queue_identifier
    ∷ gives (delete_cq 1) invalid_queue_deletion
    ∷ gives (delete_cq 2) success
    ∷ gives (set_feature 7 0) sequence_error
    ∷ gives (get_feature 1) success
    ∷ gives (entry_of 0x0c 0 0x20001 (3 + 0x10000 * 64) 0) invalid_opcode
    ∷ []

-- each new queue has a region of its own, whatever its address
pub record QueuesLieAnywhere : Type 0 where
  pub first : sq_at four_and_three one_address 1 ≡ Some (record { region = 1; cqid = 1; class = High; closing = false })
  pub second : sq_at four_and_three created_again 2 ≡ Some (record { region = 2; cqid = 1; class = Medium; closing = false })
  pub third : sq_at four_and_three created_again 1 ≡ Some (record { region = 3; cqid = 2; class = Urgent; closing = false })
  pub cqs : map (cq_at four_and_three created_again) (0 ∷ 1 ∷ 2 ∷ 3 ∷ []) ≡ Some 0 ∷ Some 1 ∷ Some 2 ∷ None ∷ []
  pub admin : sq_at four_and_three created_again 0 ≡ Some admin_queue
  pub sqs_used : map (queue_table four_and_three created_again).sq_region_used (0 ∷ 1 ∷ 2 ∷ 3 ∷ 4 ∷ []) ≡ true ∷ true ∷ true ∷ true ∷ false ∷ []
  pub cqs_used : map (queue_table four_and_three created_again).cq_region_used (0 ∷ 1 ∷ 2 ∷ 3 ∷ []) ≡ true ∷ true ∷ true ∷ false ∷ []
  pub made : ((queue_table four_and_three created_again).sqs_made ≡ 3) × ((queue_table four_and_three created_again).cqs_made ≡ 2)
  pub none_made : ((queue_table four_and_three placed).sqs_made ≡ 0) × ((queue_table four_and_three placed).cqs_made ≡ 0)
  pub opens_sq : verdict_of four_and_three created_again (create_sq 3 7 0x20000 1 3 1) ≡ OpenSq 3 4 1 Low
  pub opens_cq : verdict_of four_and_three created_again (create_cq 3 7 0x20000 1) ≡ OpenCq 3 3
  pub made_on_regions : ((queue_table four_and_three both_finished).sqs_made ≡ 2) × ((queue_table four_and_three both_finished).cqs_made ≡ 1)

-- where queues may lie is said before the first Create, and the latest word counts
abbrev pub no_page : Placing
no_page = record { page = 0; mqes = 7; vectors = 1 }

pub record PlacingIsKept : Type 0 where
  pub none : (queue_table four_and_three queues_made).placing ≡ None
  pub said : (queue_table four_and_three placed).placing ≡ Some two_vectors
  pub kept : (queue_table four_and_three created_again).placing ≡ Some two_vectors
  pub latest : (queue_table four_and_three (PlacedAnywhere no_page ∷ placed)).placing ≡ Some no_page
  pub late : (queue_table four_and_three (PlacedAnywhere no_page ∷ one_address)).placing ≡ Some two_vectors
  pub late_on_regions : (queue_table four_and_three (PlacedAnywhere two_vectors ∷ queues_made)).placing ≡ None
  pub late_changes_nothing : status_of four_and_three (PlacedAnywhere two_vectors ∷ queues_made) (create_cq 2 31 0x20000 1) ≡ invalid_field
  -- of a page of 0 bytes only address 0 is a multiple
  pub no_page_refuses : status_of four_and_three (PlacedAnywhere no_page ∷ placed) (create_cq 1 7 0x20000 1) ≡ prp_offset_invalid
  pub no_page_accepts : status_of four_and_three (PlacedAnywhere no_page ∷ placed) (create_cq 1 7 0 1) ≡ success
  -- the fields of an entry
  pub vector : vector_of (create_cq 1 7 0 0x80050003) ≡ 0x8005
  pub interrupts : interrupts_of (create_cq 1 7 0 0x00050003) ≡ true
  pub no_interrupts : interrupts_of (create_cq 1 7 0 0x00050001) ≡ false
