-- What a workload file says, or its first fault. (profile)
use Rattle.std.specs.Prelude.{ℕ, nat_lt, if◌then◌else◌, codes, List, [], ◌∷◌, ◌++◌, Option, Some, None, Result, Ok, Err, nat_eq}
use Rattle.std.specs.Cmp.Lexicographic.{pointwise}
use Rattle.std.specs.Str.{is_utf8}
use Rattle.toml.specs.Data.{Data, Members, as_str}
use Rattle.toml.specs.Parse.{parse_document}
use Rattle.nvme_entry.specs.declared.namespaces.TheConstants.{MAX_NAMESPACES}
use Rattle.nvme_admin.specs.declared.bounds.TheConstants.{MAX_IO_QUEUES}
use Rattle.nvme_arbiter.specs.declared.settings.Mechanism.{Mechanism}
use Rattle.nvme_arbiter.specs.declared.settings.Mechanism.TheVariants.{RoundRobin, Weighted}
use Rattle.nvme_arbiter.specs.Settings.{ArbitrationFields, settings_of}
use Rattle.nvme_workload.specs.declared.key.Key.TheVariants as key
use Rattle.nvme_workload.specs.declared.error.WorkloadError.{WorkloadError}
use Rattle.nvme_workload.specs.declared.error.WorkloadError.TheVariants as fault
use Rattle.nvme_workload.specs.declared.flaw.Flaw.{Flaw}
use Rattle.nvme_workload.specs.declared.flaw.Flaw.TheVariants as flaw
use Rattle.nvme_workload.specs.declared.flaw.PlanError.{PlanError}
use Rattle.nvme_workload.specs.declared.flaw.PlanError.TheVariants.{At, NoMemory}
use Rattle.nvme_workload.specs.declared.place.Spot.TheVariants.{Top}
use Rattle.nvme_workload.specs.declared.plan.SqPlan.{SqPlan}
use Rattle.nvme_workload.specs.declared.plan.CqPlan.{CqPlan}
use Rattle.nvme_workload.specs.declared.plan.Workload.{Workload}
use Rattle.nvme_workload.specs.Keys.{file_keys}
use Rattle.nvme_workload.specs.Readings.{◌>>=◌, ◌>>◌, in_turn, item_count, only_keys, value_at, whole, array_of, number_at}
use Rattle.nvme_workload.specs.Regions.{submissions_of, completions_of}

-- what a file says
pub record Plan : Type 0 where
  pub mechanism : Mechanism
  pub settings : ArbitrationFields
  -- the limits on the queues of each kind
  pub nsq : ℕ
  pub ncq : ℕ
  -- of the namespaces, in blocks
  pub sizes : List ℕ
  pub patience : ℕ
  pub submissions : List SqPlan
  pub completions : List CqPlan

-- what a workload says
abbrev pub plan_of : Workload → Plan
plan_of w = record { mechanism = w.mechanism; settings = w.settings; nsq = w.limits.nsq; ncq = w.limits.ncq; sizes = w.spaces; patience = w.patience; submissions = w.submissions; completions = w.completions }

-- ---- the document

-- the mechanism of this name
abbrev pub mechanism_named : Option (List ℕ) → Result Mechanism PlanError
mechanism_named None = Err (At Top (flaw.Bad key.Mechanism))
mechanism_named (Some name) = if pointwise nat_eq name (codes "round-robin") then Ok RoundRobin else (if pointwise nat_eq name (codes "weighted") then Ok Weighted else Err (At Top (flaw.Bad key.Mechanism)))

abbrev pub mechanism_of : Data → Result Mechanism PlanError
mechanism_of d = mechanism_named (as_str d)

-- the sizes with one more
unfoldable pub with_size : List ℕ → Data → Result (List ℕ) PlanError
with_size before d = do
  size ← whole Top key.Namespaces 1 9223372036854775807 d
  Ok (before ++ size ∷ [])

unfoldable pub sizes_of : Data → Result (List ℕ) PlanError
sizes_of d = do
  items ← array_of Top key.Namespaces d
  if nat_lt MAX_NAMESPACES (item_count items) then Err (At Top (flaw.Most key.Namespaces)) else in_turn (λ index. with_size) 0 [] items

-- what the file's own table is read as, or its first flaw with the table where it is
unfoldable pub reading_of : Members → Result Plan PlanError
reading_of table = do
  only_keys Top file_keys table
  mechanism ← value_at Top key.Mechanism table >>= mechanism_of
  arbitration ← number_at Top key.Arbitration 0 4294967295 table
  nsq ← number_at Top key.SqLimit 1 MAX_IO_QUEUES table
  ncq ← number_at Top key.CqLimit 1 MAX_IO_QUEUES table
  patience ← number_at Top key.Patience 1 4294967295 table
  sizes ← value_at Top key.Namespaces table >>= sizes_of
  submissions ← value_at Top key.Submission table >>= submissions_of
  completions ← value_at Top key.Completion table >>= completions_of submissions
  Ok (record { mechanism = mechanism; settings = settings_of arbitration; nsq = nsq; ncq = ncq; sizes = sizes; patience = patience; submissions = submissions; completions = completions })

-- ---- the fault, without its place

abbrev pub fault_of : Flaw → WorkloadError
fault_of (flaw.Missing key) = fault.Missing key
fault_of (flaw.Bad key) = fault.Bad key
fault_of flaw.Unknown = fault.Unknown
fault_of (flaw.Most key) = fault.Limit
fault_of flaw.Repeated = fault.Repeated

abbrev pub error_of : PlanError → WorkloadError
error_of (At spot flaw) = fault_of flaw
error_of NoMemory = fault.NoMemory

abbrev pub without_place : {A : Type 0} → Result A PlanError → Result A WorkloadError
without_place (Ok x) = Ok x
without_place (Err e) = Err (error_of e)

-- the file's own table
unfoldable pub plan_in : Members → Result Plan WorkloadError
plan_in table = without_place (reading_of table)

-- ---- the bytes of a file

-- the document of a text
abbrev pub plan_of_document : Option Members → Result Plan WorkloadError
plan_of_document None = Err fault.NotToml
plan_of_document (Some table) = plan_in table

unfoldable pub plan_of_text : List ℕ → Result Plan WorkloadError
plan_of_text text = plan_of_document (parse_document text)

-- the workload of the bytes of a file, or its first fault
unfoldable pub workload_of : List ℕ → Result Plan WorkloadError
workload_of bytes = if is_utf8 bytes then plan_of_text bytes else Err fault.NotUtf8
