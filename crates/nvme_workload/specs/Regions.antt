-- The regions: a ring each, with what the host of a submission region submits. (profile)
use Rattle.std.specs.Prelude.{Bool, ℕ, ◌==◌, ◌||◌, nat_lt, if◌then◌else◌, List, [], ◌∷◌, ◌++◌, length, sum_by, Result, Ok, Err}
use Rattle.std.specs.List.{list_any}
use Rattle.toml.specs.Data.{Data, Items, Members}
use Rattle.nvme_admin.specs.declared.bounds.TheConstants.{MAX_REGIONS, MIN_SLOTS, MAX_SLOTS}
use Rattle.nvme_workload.specs.declared.key.Key.{Key}
use Rattle.nvme_workload.specs.declared.key.Key.TheVariants as key
use Rattle.nvme_workload.specs.declared.flaw.Flaw.TheVariants.{Bad, Most, Repeated}
use Rattle.nvme_workload.specs.declared.flaw.PlanError.{PlanError}
use Rattle.nvme_workload.specs.declared.flaw.PlanError.TheVariants.{At}
use Rattle.nvme_workload.specs.declared.place.Spot.{Spot}
use Rattle.nvme_workload.specs.declared.place.Spot.TheVariants as spot
use Rattle.nvme_workload.specs.declared.plan.SqPlan.{SqPlan}
use Rattle.nvme_workload.specs.declared.plan.CqPlan.{CqPlan}
use Rattle.nvme_workload.specs.Keys.{submission_keys, completion_keys}
use Rattle.nvme_workload.specs.Readings.{◌>>=◌, ◌>>◌, in_turn, item_count, array_of, table_of, only_keys, value_at, number_at}
use Rattle.nvme_workload.specs.Scripts.{script_of}

-- a region of these has the address
abbrev pub has_address : List SqPlan → List CqPlan → ℕ → Bool
has_address submissions completions a = list_any (λ p. p.address == a) submissions || list_any (λ p. p.address == a) completions

-- the address of a region, which no region read before has
unfoldable pub address_in : Spot → List SqPlan → List CqPlan → Members → Result ℕ PlanError
address_in at submissions completions table = do
  address ← number_at at key.Address 0 9223372036854775807 table
  if has_address submissions completions address then Err (At at Repeated) else Ok address

unfoldable pub slots_in : Spot → Members → Result ℕ PlanError
slots_in at table = number_at at key.Slots MIN_SLOTS MAX_SLOTS table

-- the commands of all scripts
abbrev pub command_count : List SqPlan → ℕ
command_count regions = sum_by (λ p. length p.script) regions

-- ---- one region, after those before it

-- the number of a region is that of the regions of its kind before it
abbrev pub sq_spot : List SqPlan → Spot
sq_spot before = spot.Submission (length before)

abbrev pub cq_spot : List CqPlan → Spot
cq_spot before = spot.Completion (length before)

unfoldable pub submission_of : List SqPlan → Data → Result SqPlan PlanError
submission_of before d = do
  table ← table_of (sq_spot before) key.Submission d
  only_keys (sq_spot before) submission_keys table
  address ← address_in (sq_spot before) before [] table
  slots ← slots_in (sq_spot before) table
  items ← value_at (sq_spot before) key.Script table
  script ← script_of (length before) (command_count before) items
  Ok (record { address = address; slots = slots; script = script })

unfoldable pub completion_of : List SqPlan → List CqPlan → Data → Result CqPlan PlanError
completion_of submissions before d = do
  table ← table_of (cq_spot before) key.Completion d
  only_keys (cq_spot before) completion_keys table
  address ← address_in (cq_spot before) submissions before table
  slots ← slots_in (cq_spot before) table
  Ok (record { address = address; slots = slots })

-- ---- all regions of a kind

-- the items of the array of a kind's regions: at least one, and not too many
unfoldable pub regions_of : Key → Data → Result Items PlanError
regions_of k d = do
  items ← array_of spot.Top k d
  if item_count items == 0 then Err (At spot.Top (Bad k)) else (if nat_lt MAX_REGIONS (item_count items) then Err (At spot.Top (Most k)) else Ok items)

-- the regions with one more
unfoldable pub with_submission : List SqPlan → Data → Result (List SqPlan) PlanError
with_submission before d = do
  region ← submission_of before d
  Ok (before ++ region ∷ [])

unfoldable pub with_completion : List SqPlan → List CqPlan → Data → Result (List CqPlan) PlanError
with_completion submissions before d = do
  region ← completion_of submissions before d
  Ok (before ++ region ∷ [])

unfoldable pub submissions_of : Data → Result (List SqPlan) PlanError
submissions_of d = regions_of key.Submission d >>= in_turn (λ index. with_submission) 0 []

unfoldable pub completions_of : List SqPlan → Data → Result (List CqPlan) PlanError
completions_of submissions d = regions_of key.Completion d >>= in_turn (λ index. with_completion submissions) 0 []
