-- The queue table: what stands after the steps that took effect, by looking back over them.
-- (Base Specification: Create and Delete I/O Submission and Completion Queue, Arbitration feature, Number of Queues feature)
use Rattle.std.specs.Prelude.{ℕ, suc, ◌+◌, ◌==◌, ◌&&◌, ◌||◌, Bool, true, false, min, if◌then◌else◌, List, [], ◌∷◌, ◌++◌, length, Option, Some, None, is_none, is_some, option_map, option_to_list, unwrap_or, position}
use Rattle.std.specs.List.{list_any}
use Rattle.nvme_entry.specs.Bits.{bits_of}
use Rattle.nvme_entry.specs.declared.admin.AdminCommand.TheVariants.{DeleteSq, CreateSq, DeleteCq, CreateCq, SetFeatures}
use Rattle.nvme_arbiter.specs.Settings.{ArbitrationFields, settings_of}
use Rattle.nvme_arbiter.specs.declared.settings.Class.{Class}
use Rattle.nvme_arbiter.specs.declared.settings.Class.TheVariants.{Admin, Urgent, High, Medium, Low}
use Rattle.nvme_admin.specs.declared.region.Region.{Region}
use Rattle.nvme_admin.specs.declared.verdict.SqEntry.{SqEntry}
use Rattle.nvme_admin.specs.History.{Submission, Completion, Start, Placing, Added, Accepted, Finished, Anywhere, Effects}

-- the queue table, as total look-ups
pub record QueueTable : Type 0 where
  -- the submission queue of an identifier, where one is open or closing
  pub sq : ℕ → Option SqEntry
  -- the region of the completion queue of an identifier, where one is open
  pub cq : ℕ → Option ℕ
  -- the regions of each kind, region 0 first
  pub sq_regions : List Region
  pub cq_regions : List Region
  -- whether a region is used, by its number
  pub sq_region_used : ℕ → Bool
  pub cq_region_used : ℕ → Bool
  -- the allotted number of I/O queues of each kind
  pub nsq : ℕ
  pub ncq : ℕ
  -- whether a Set of Number of Queues was ever accepted, and a Create of either kind
  pub numbers_set : Bool
  pub created : Bool
  -- the settings of the Arbitration feature
  pub settings : ArbitrationFields
  -- what a Create may ask for where queues may lie anywhere, and None where each lies on a region that was added
  pub placing : Option Placing
  -- how many I/O queues of each kind were created, by accepted Creates
  pub sqs_made : ℕ
  pub cqs_made : ℕ

-- the identifier of the Arbitration feature
abbrev pub arbitration : ℕ
arbitration = 0x01

-- the identifier of the Number of Queues feature
abbrev pub number_of_queues : ℕ
number_of_queues = 0x07

-- the class of QPRIO. (Create I/O Submission Queue, Command Dword 11)
abbrev pub class_of : ℕ → Class
class_of qprio = if qprio == 0 then Urgent else (if qprio == 1 then High else (if qprio == 2 then Medium else Low))

-- the number of the region at an address
abbrev pub region_number : List Region → ℕ → Option ℕ
region_number regions address = position (λ r. r.address == address) regions

-- whether a Create of either kind was ever accepted
abbrev pub created_in : Effects → Bool
created_in [] = false
created_in (Accepted (CreateSq qid qsize prp1 cqid qprio pc) ∷ past) = true
created_in (Accepted (CreateCq qid qsize prp1 pc) ∷ past) = true
created_in (e ∷ past) = created_in past

-- what a Create may ask for where queues may lie anywhere: the latest step that says so before the first accepted Create (profile)
abbrev pub placing_in : Effects → Option Placing
placing_in [] = None
placing_in (Anywhere p ∷ past) = if created_in past then placing_in past else Some p
placing_in (e ∷ past) = placing_in past

-- the number of a new queue's region, where one is there: that of the region at PRP1. Where queues may lie anywhere, each new queue has a
-- region of its own, which counts from 1 over the queues of its kind that were made before (profile)
abbrev pub number_by : Option Placing → (made : ℕ) → List Region → (prp1 : ℕ) → Option ℕ
number_by None made regions prp1 = region_number regions prp1
number_by (Some p) made regions prp1 = Some (suc made)

-- the submission regions
abbrev pub sq_regions_in : Effects → List Region
sq_regions_in [] = []
sq_regions_in (Added Submission address slots ∷ past) = sq_regions_in past ++ record { address = address; slots = slots } ∷ []
sq_regions_in (e ∷ past) = sq_regions_in past

-- the completion regions
abbrev pub cq_regions_in : Effects → List Region
cq_regions_in [] = []
cq_regions_in (Added Completion address slots ∷ past) = cq_regions_in past ++ record { address = address; slots = slots } ∷ []
cq_regions_in (e ∷ past) = cq_regions_in past

-- the numbers of the submission regions that accepted Creates named or made, the newest first
abbrev pub sq_named_in : Effects → List ℕ
sq_named_in [] = []
sq_named_in (Accepted (CreateSq qid qsize prp1 cqid qprio pc) ∷ past) = option_to_list (number_by (placing_in past) (length (sq_named_in past)) (sq_regions_in past) prp1) ++ sq_named_in past
sq_named_in (e ∷ past) = sq_named_in past

-- the numbers of the completion regions that accepted Creates named or made, the newest first
abbrev pub cq_named_in : Effects → List ℕ
cq_named_in [] = []
cq_named_in (Accepted (CreateCq qid qsize prp1 pc) ∷ past) = option_to_list (number_by (placing_in past) (length (cq_named_in past)) (cq_regions_in past) prp1) ++ cq_named_in past
cq_named_in (e ∷ past) = cq_named_in past

-- a region is used where it is region 0 or an accepted Create named it (profile)
abbrev pub is_used : List ℕ → ℕ → Bool
is_used named k = k == 0 || list_any (λ n. n == k) named

-- an accepted Delete makes a queue closing
abbrev pub as_closing : SqEntry → SqEntry
as_closing queue = record queue { closing = true }

-- a closing queue is gone when its deletion is finished
abbrev pub unless_closing : Option SqEntry → Option SqEntry
unless_closing None = None
unless_closing (Some queue) = if queue.closing then None else Some queue

-- the I/O submission queue of an identifier: that of its latest accepted Create, which is closing after an accepted Delete and gone when
-- its deletion is finished
abbrev pub io_sq_in : Effects → ℕ → Option SqEntry
io_sq_in [] q = None
io_sq_in (Accepted (CreateSq qid qsize prp1 cqid qprio pc) ∷ past) q =
    if qid == q
    then Some (record { region = unwrap_or (number_by (placing_in past) (length (sq_named_in past)) (sq_regions_in past) prp1) 0; cqid = cqid; class = class_of qprio; closing = false })
    else io_sq_in past q
io_sq_in (Accepted (DeleteSq qid) ∷ past) q = if qid == q then option_map as_closing (io_sq_in past q) else io_sq_in past q
io_sq_in (Finished qid ∷ past) q = if qid == q then unless_closing (io_sq_in past q) else io_sq_in past q
io_sq_in (e ∷ past) q = io_sq_in past q

-- the region of the I/O completion queue of an identifier: that of its latest accepted Create with no accepted Delete after it
abbrev pub io_cq_in : Effects → ℕ → Option ℕ
io_cq_in [] q = None
io_cq_in (Accepted (CreateCq qid qsize prp1 pc) ∷ past) q =
    if qid == q then Some (unwrap_or (number_by (placing_in past) (length (cq_named_in past)) (cq_regions_in past) prp1) 0) else io_cq_in past q
io_cq_in (Accepted (DeleteCq qid) ∷ past) q = if qid == q then None else io_cq_in past q
io_cq_in (e ∷ past) q = io_cq_in past q

-- the admin submission queue is open for good once its region 0 is there
abbrev pub admin_sq : List Region → Option SqEntry
admin_sq [] = None
admin_sq (r ∷ rs) = Some (record { region = 0; cqid = 0; class = Admin; closing = false })

-- the admin completion queue is open for good once its region 0 is there
abbrev pub admin_cq : List Region → Option ℕ
admin_cq [] = None
admin_cq (r ∷ rs) = Some 0

-- the submission queue of an identifier
abbrev pub sq_in : Effects → ℕ → Option SqEntry
sq_in effects q = if q == 0 then admin_sq (sq_regions_in effects) else io_sq_in effects q

-- the region of the completion queue of an identifier
abbrev pub cq_in : Effects → ℕ → Option ℕ
cq_in effects q = if q == 0 then admin_cq (cq_regions_in effects) else io_cq_in effects q

-- Command Dword 11 of the first accepted Set of Number of Queues
abbrev pub first_request_in : Effects → Option ℕ
first_request_in [] = None
first_request_in (Accepted (SetFeatures fid sv cdw11) ∷ past) =
    if fid == number_of_queues && is_none (first_request_in past) then Some cdw11 else first_request_in past
first_request_in (e ∷ past) = first_request_in past

-- NSQR and NCQR, the numbers that are asked for, zero based. (Number of Queues feature, Command Dword 11)
abbrev pub nsqr_of : ℕ → ℕ
nsqr_of cdw11 = bits_of 15 0 cdw11

abbrev pub ncqr_of : ℕ → ℕ
ncqr_of cdw11 = bits_of 31 16 cdw11

-- the allotted number of submission queues: the smaller of the first accepted request and the limit, and before any the limit (profile)
abbrev pub nsq_by : Start → Option ℕ → ℕ
nsq_by start None = start.nsq
nsq_by start (Some cdw11) = min (nsqr_of cdw11 + 1) start.nsq

-- the allotted number of completion queues
abbrev pub ncq_by : Start → Option ℕ → ℕ
ncq_by start None = start.ncq
ncq_by start (Some cdw11) = min (ncqr_of cdw11 + 1) start.ncq

-- the settings of the latest accepted Set of Arbitration, and before any the first ones
abbrev pub settings_in : Start → Effects → ArbitrationFields
settings_in start [] = start.settings
settings_in start (Accepted (SetFeatures fid sv cdw11) ∷ past) = if fid == arbitration then settings_of cdw11 else settings_in start past
settings_in start (e ∷ past) = settings_in start past

-- the queue table after these steps
abbrev pub table_in : Start → Effects → QueueTable
table_in start effects = record {
  sq = sq_in effects;
  cq = cq_in effects;
  sq_regions = sq_regions_in effects;
  cq_regions = cq_regions_in effects;
  sq_region_used = is_used (sq_named_in effects);
  cq_region_used = is_used (cq_named_in effects);
  nsq = nsq_by start (first_request_in effects);
  ncq = ncq_by start (first_request_in effects);
  numbers_set = is_some (first_request_in effects);
  created = created_in effects;
  settings = settings_in start effects;
  placing = placing_in effects;
  sqs_made = length (sq_named_in effects);
  cqs_made = length (cq_named_in effects);
}
