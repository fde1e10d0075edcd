-- What a contract sees of a `Table`, and when a table stands at a table history (profile).
use Rattle.std.specs.Prelude.{◌≡◌, ℕ, ◌==◌, Bool, true, false, nat_lt, ◌||◌, if◌then◌else◌, List, ◌∷◌, length, Option, Some, None, is_some, slice_get, slice_index_or, slice_set}
use Rattle.nvme_entry.specs.Status.{StatusCode}
use Rattle.nvme_entry.specs.declared.admin.AdminCommand.{AdminCommand}
use Rattle.nvme_arbiter.specs.Settings.{ArbitrationFields}
use Rattle.nvme_admin.specs.declared.bounds.TheConstants.{MAX_REGIONS, MIN_SLOTS, MAX_SLOTS}
use Rattle.nvme_admin.specs.declared.region.Region.{Region}
use Rattle.nvme_admin.specs.declared.region.AdminError.{AdminError}
use Rattle.nvme_admin.specs.declared.region.AdminError.TheVariants.{Used, TooMany, Size}
use Rattle.nvme_admin.specs.declared.verdict.SqEntry.{SqEntry}
use Rattle.nvme_admin.specs.declared.verdict.Verdict.{Verdict}
use Rattle.nvme_admin.specs.History.{Start, TableHistory, Effects, Accepted}
use Rattle.nvme_admin.specs.QueueTable.{QueueTable, region_number, table_in}
use Rattle.nvme_entry.specs.Checks.{first_failed}
use Rattle.nvme_admin.specs.Checks.{rows_of, is_success, verdict_by}
use Rattle.nvme_admin.specs.Accepted.{queue_table}
use Rattle.nvme_admin.specs.Steps.{table_after}

-- the content of a table: lists by region number and by queue identifier
pub record TableView : Type 0 where
  -- the regions of each kind
  pub sq_regions : List Region
  pub cq_regions : List Region
  -- which of them are used
  pub sq_used : List Bool
  pub cq_used : List Bool
  -- the submission queues that are open or closing
  pub sqs : List (Option SqEntry)
  -- the regions of the completion queues that are open
  pub cqs : List (Option ℕ)
  -- the allotted numbers
  pub nsq : ℕ
  pub ncq : ℕ
  -- a Set of Number of Queues, and a Create, was accepted
  pub numbers_set : Bool
  pub created : Bool
  -- the settings of the Arbitration feature
  pub settings : ArbitrationFields

-- there is a place for each region and each identifier
pub record IsSized (v : TableView) : Type 0 where
  pub sq_used : length v.sq_used ≡ MAX_REGIONS
  pub cq_used : length v.cq_used ≡ MAX_REGIONS
  pub sqs : length v.sqs ≡ MAX_REGIONS
  pub cqs : length v.cqs ≡ MAX_REGIONS

-- the submission queue of an identifier
abbrev pub sq_of : TableView → ℕ → Option SqEntry
sq_of v q = slice_index_or v.sqs q None

-- the region of the completion queue of an identifier
abbrev pub cq_of : TableView → ℕ → Option ℕ
cq_of v q = slice_index_or v.cqs q None

-- whether a region is used, by its number
abbrev pub used_at : List Bool → ℕ → Bool
used_at used k = slice_index_or used k false

-- a table has this queue table, in which each queue lies on a region. How many queues were created isn't seen
pub record Shows (v : TableView) (t : QueueTable) : Type 0 where
  pub sq : (q : ℕ) → sq_of v q ≡ t.sq q
  pub cq : (q : ℕ) → cq_of v q ≡ t.cq q
  pub sq_regions : v.sq_regions ≡ t.sq_regions
  pub cq_regions : v.cq_regions ≡ t.cq_regions
  pub sq_used : (k : ℕ) → used_at v.sq_used k ≡ t.sq_region_used k
  pub cq_used : (k : ℕ) → used_at v.cq_used k ≡ t.cq_region_used k
  pub nsq : v.nsq ≡ t.nsq
  pub ncq : v.ncq ≡ t.ncq
  pub numbers_set : v.numbers_set ≡ t.numbers_set
  pub created : v.created ≡ t.created
  pub settings : v.settings ≡ t.settings
  pub placing : t.placing ≡ None

-- a table stands at a history: it has the queue table of the history
abbrev pub StandsAt : Start → TableView → TableHistory → Type 0
StandsAt start v h = Shows v (queue_table start h)

-- the queue table that a table has, in which no created queue is counted
abbrev pub table_of : TableView → QueueTable
table_of v = record {
  sq = sq_of v;
  cq = cq_of v;
  sq_regions = v.sq_regions;
  cq_regions = v.cq_regions;
  sq_region_used = used_at v.sq_used;
  cq_region_used = used_at v.cq_used;
  nsq = v.nsq;
  ncq = v.ncq;
  numbers_set = v.numbers_set;
  created = v.created;
  settings = v.settings;
  placing = None;
  sqs_made = 0;
  cqs_made = 0;
}

-- a table in which a region of this number is renewed, where one is there and it isn't the admin queue's: it has this number of slots and is
-- unused (profile)
abbrev pub sq_renewed_as : TableView → (k slots : ℕ) → Option Region → TableView
sq_renewed_as v k slots None = v
sq_renewed_as v k slots (Some r) =
    if k == 0 then v else record v { sq_regions = slice_set v.sq_regions k (record r { slots = slots }); sq_used = slice_set v.sq_used k false }

abbrev pub sq_renewed : TableView → (k slots : ℕ) → TableView
sq_renewed v k slots = sq_renewed_as v k slots (slice_get v.sq_regions k)

-- the same of completion regions
abbrev pub cq_renewed_as : TableView → (k slots : ℕ) → Option Region → TableView
cq_renewed_as v k slots None = v
cq_renewed_as v k slots (Some r) =
    if k == 0 then v else record v { cq_regions = slice_set v.cq_regions k (record r { slots = slots }); cq_used = slice_set v.cq_used k false }

abbrev pub cq_renewed : TableView → (k slots : ℕ) → TableView
cq_renewed v k slots = cq_renewed_as v k slots (slice_get v.cq_regions k)

-- the status of a command over the queue table that a table has
abbrev pub command_status : TableView → AdminCommand → StatusCode
command_status v command = first_failed (rows_of (table_of v) command)

-- what a command does to a table
pub record Does (old new : TableView) (command : AdminCommand) (verdict : Verdict) : Type 0 where
  pub verdict_is : verdict ≡ verdict_by (command_status old command) (table_of new) command
  pub accepted : is_success (command_status old command) ≡ true
      → (start : Start) (effects : Effects) → Shows old (table_in start effects) → Shows new (table_in start (Accepted command ∷ effects))
  pub takes : is_success (command_status old command) ≡ true → Shows new (table_after (table_of old) command)
  pub refused : is_success (command_status old command) ≡ false → new ≡ old

-- an address is that of a region of either kind
abbrev pub is_known : TableView → ℕ → Bool
is_known v address = is_some (region_number v.sq_regions address) || is_some (region_number v.cq_regions address)

-- why a region can't be added beside these regions of its kind, where it can't: the first cause
abbrev pub region_fault : TableView → List Region → (address slots : ℕ) → Option AdminError
region_fault v regions address slots =
    if is_known v address then Some Used
    else (if length regions == MAX_REGIONS then Some TooMany
    else (if nat_lt slots MIN_SLOTS || nat_lt MAX_SLOTS slots then Some Size
    else None))
