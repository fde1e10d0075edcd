-- What holds of each workload that is read, in the words of those who run it. (profile)
use Rattle.std.specs.Prelude.{◌≡◌, ◌≢◌, ℕ, ◌^◌, ◌<◌, ◌≤◌, List, [], ◌++◌, length, map, All}
use Rattle.std.specs.List.{AllPairs, range_with_len}
use Rattle.nvme_entry.specs.declared.namespaces.TheConstants.{MAX_NAMESPACES}
use Rattle.nvme_entry.specs.declared.submission.Sqe.{Sqe}
use Rattle.nvme_admin.specs.declared.bounds.TheConstants.{MAX_IO_QUEUES, MAX_REGIONS, MIN_SLOTS, MAX_SLOTS}
use Rattle.nvme_workload.specs.declared.plan.SqPlan.{SqPlan}
use Rattle.nvme_workload.specs.declared.plan.CqPlan.{CqPlan}
use Rattle.nvme_workload.specs.Scripts.{most_commands}
use Rattle.nvme_workload.specs.Regions.{command_count}
use Rattle.nvme_workload.specs.Plan.{Plan}

-- the CIDs of a script count from 0
abbrev pub IsNumbered : List Sqe → Type 0
IsNumbered script = map (λ command. command.cid) script ≡ range_with_len 0 (length script)

-- a ring of this many slots can be made
abbrev pub AreSlots : ℕ → Type 0
AreSlots slots = (MIN_SLOTS ≤ slots) × (slots ≤ MAX_SLOTS)

-- the addresses of all regions
abbrev pub addresses_of : List SqPlan → List CqPlan → List ℕ
addresses_of submissions completions = map (λ region. region.address) submissions ++ map (λ region. region.address) completions

-- no two regions have one address
abbrev pub AreApart : List SqPlan → List CqPlan → Type 0
AreApart submissions completions = AllPairs (λ a b. a ≢ b) (addresses_of submissions completions)

-- submission regions that were read
pub record AreSubmissions (regions : List SqPlan) : Type 0 where
  pub slots : All (λ region. AreSlots region.slots) regions
  pub apart : AreApart regions []
  pub numbered : All (λ region. IsNumbered region.script) regions
  pub commands : command_count regions ≤ most_commands

-- completion regions that were read after these submission regions
pub record AreCompletions (submissions : List SqPlan) (regions : List CqPlan) : Type 0 where
  pub slots : All (λ region. AreSlots region.slots) regions
  pub apart : AreApart submissions regions

-- of the regions of one kind
abbrev pub IsRegionCount : ℕ → Type 0
IsRegionCount n = (1 ≤ n) × (n ≤ MAX_REGIONS)

-- on the I/O queues of one kind
abbrev pub IsLimit : ℕ → Type 0
IsLimit n = (1 ≤ n) × (n ≤ MAX_IO_QUEUES)

-- of namespaces, in blocks
abbrev pub AreSizes : List ℕ → Type 0
AreSizes sizes = All (λ size. (1 ≤ size) × (size < 2 ^ 63)) sizes

-- a plan that a controller and its hosts can be made by
pub record IsSound (p : Plan) : Type 0 where
  pub nsq : IsLimit p.nsq
  pub ncq : IsLimit p.ncq
  pub namespaces : length p.sizes ≤ MAX_NAMESPACES
  pub sizes : AreSizes p.sizes
  pub patience : 1 ≤ p.patience
  pub submission_count : IsRegionCount (length p.submissions)
  pub submissions : AreSubmissions p.submissions
  pub completion_count : IsRegionCount (length p.completions)
  pub completions : AreCompletions p.submissions p.completions
