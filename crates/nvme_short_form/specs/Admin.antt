-- The admin commands of a short workload file. (profile)
use Rattle.std.specs.Prelude.{ℕ, ◌+◌, ◌-◌, ◌*◌, ◌==◌, ℤ, pos, nat_lt, if◌then◌else◌, codes, List, [], ◌∷◌, ◌++◌, Option, Some, None, Result, Ok, Err}
use Rattle.toml.specs.Data.{Data, Members, as_str, as_integer}
use Rattle.nvme_workload.specs.Scripts.{most_commands}
use Rattle.nvme_short_form.specs.declared.key.Key.TheVariants as key
use Rattle.nvme_short_form.specs.declared.place.Place.{Place}
use Rattle.nvme_short_form.specs.declared.place.Place.TheVariants as place
use Rattle.nvme_short_form.specs.declared.error.Fault.TheVariants.{Limit}
use Rattle.nvme_short_form.specs.declared.error.ShortError.{ShortError}
use Rattle.nvme_short_form.specs.declared.error.ShortError.TheVariants.{At}
use Rattle.nvme_short_form.specs.declared.command.Item.{Item}
use Rattle.nvme_short_form.specs.declared.admin.Step.{Step}
use Rattle.nvme_short_form.specs.declared.admin.Step.TheVariants.{Create, Command}
use Rattle.nvme_short_form.specs.Keys.{weight_keys, queue_op_keys, abort_keys, set_keys, get_keys}
use Rattle.nvme_short_form.specs.Readings.{◌>>=◌, ◌>>◌, in_turn, only_keys, value_in, value_at, array_of, table_of, number_at, number_or, bad}
use Rattle.nvme_short_form.specs.Commands.{is_named, raw_of}

-- ---- the Arbitration feature: Base Specification, Arbitration, Command Dword 11

-- the burst is 2 to the power of its field
abbrev pub burst_number : Place → Option ℤ → Result ℕ ShortError
burst_number at (Some (pos n)) =
    if n == 1 then Ok 0
    else (if n == 2 then Ok 1
    else (if n == 4 then Ok 2
    else (if n == 8 then Ok 3
    else (if n == 16 then Ok 4
    else (if n == 32 then Ok 5
    else (if n == 64 then Ok 6
    else bad at key.Burst))))))
burst_number at _ = bad at key.Burst

-- 111b is no limit
abbrev pub burst_given : Place → Data → Option (List ℕ) → Result ℕ ShortError
burst_given at d None = burst_number at (as_integer d)
burst_given at d (Some name) = if is_named name (codes "none") then Ok 7 else bad at key.Burst

abbrev pub optional_burst : Place → Option Data → Result ℕ ShortError
optional_burst at None = Ok 0
optional_burst at (Some d) = burst_given at d (as_str d)

-- where the weights of a table are: of the file's own, or of an item of `admin`
abbrev pub weights_place : Place → Place
weights_place place.Top = place.Weights
weights_place (place.Admin index) = place.AdminWeights index
weights_place at = at

-- the fields of the weights, each zero based
unfoldable pub weights_of : Place → Data → Result ℕ ShortError
weights_of at d = do
  table ← table_of at key.Weights d
  only_keys (weights_place at) weight_keys table
  high ← number_or (weights_place at) key.High 1 1 256 table
  medium ← number_or (weights_place at) key.Medium 1 1 256 table
  low ← number_or (weights_place at) key.Low 1 1 256 table
  Ok (256 * (low - 1) + 65536 * (medium - 1) + 16777216 * (high - 1))

abbrev pub optional_weights : Place → Option Data → Result ℕ ShortError
optional_weights at None = Ok 0
optional_weights at (Some d) = weights_of at d

-- Command Dword 11 of the Arbitration feature
unfoldable pub arbitration_in : Place → Members → Result ℕ ShortError
arbitration_in at table = do
  burst ← optional_burst at (value_in key.Burst table)
  weights ← optional_weights at (value_in key.Weights table)
  Ok (burst + weights)

-- ---- commands

-- an admin command of this opcode, by Command Dwords 10 and 11
abbrev pub admin_item : ℕ → ℕ → ℕ → Item
admin_item opcode cdw10 cdw11 = record { op = opcode; flags = 0; nsid = 0; prp1 = 0; dw10 = cdw10 + 4294967296 * cdw11; cdw12 = 0; count = 1 }

-- the number of one of so many queues
unfoldable pub queue_at : Place → ℕ → Members → Result ℕ ShortError
queue_at at queues table = only_keys at queue_op_keys table >> number_at at key.Number 1 queues table

-- Abort (08h): CDW10 31:16 CID, 15:00 SQID
unfoldable pub abort_of : Place → Members → Result Step ShortError
abort_of at table = do
  only_keys at abort_keys table
  queue ← number_at at key.Target 0 65535 table
  cid ← number_at at key.Cid 0 65535 table
  Ok (Command (admin_item 8 (queue + 65536 * cid) 0))

-- Set Features (09h) of Arbitration (01h)
unfoldable pub set_of : Place → Members → Result Step ShortError
set_of at table = do
  only_keys at set_keys table
  arbitration ← arbitration_in at table
  Ok (Command (admin_item 9 1 arbitration))

abbrev pub feature_named : Place → Option (List ℕ) → Result ℕ ShortError
feature_named at None = bad at key.Feature
feature_named at (Some name) =
    if is_named name (codes "arbitration") then Ok 1 else (if is_named name (codes "number-of-queues") then Ok 7 else bad at key.Feature)

abbrev pub optional_feature : Place → Option Data → Result ℕ ShortError
optional_feature at None = Ok 1
optional_feature at (Some d) = feature_named at (as_str d)

-- Get Features (0Ah)
unfoldable pub get_of : Place → Members → Result Step ShortError
get_of at table = do
  only_keys at get_keys table
  feature ← optional_feature at (value_in key.Feature table)
  Ok (Command (admin_item 10 feature 0))

-- what `op` names, or an opcode
abbrev pub step_named : Place → ℕ → Members → Option (List ℕ) → Result Step ShortError
step_named at queues table None = raw_of at table >>= (λ item. Ok (Command item))
step_named at queues table (Some name) =
    if is_named name (codes "create") then queue_at at queues table >>= (λ n. Ok (Create n))
    else (if is_named name (codes "delete") then queue_at at queues table >>= (λ n. Ok (Command (admin_item 0 n 0)))
    else (if is_named name (codes "abort") then abort_of at table
    else (if is_named name (codes "set-arbitration") then set_of at table
    else (if is_named name (codes "get-features") then get_of at table
    else bad at key.Op))))

unfoldable pub step_of : Place → ℕ → Members → Result Step ShortError
step_of at queues table = value_at at key.Op table >>= (λ op. step_named at queues table (as_str op))

-- the commands of a step that count with it. The Creates of a queue count with the queue
abbrev pub step_count : Step → ℕ
step_count (Create n) = 0
step_count (Command item) = item.count

-- the steps so far, with the number of all commands so far
abbrev pub SoFar : Type 0
SoFar = List Step × ℕ

-- one more step
unfoldable pub with_step : ℕ → ℕ → SoFar → Data → Result SoFar ShortError
with_step queues index before d = do
  table ← table_of (place.Admin index) key.Admin d
  step ← step_of (place.Admin index) queues table
  if nat_lt most_commands (before.1 + step_count step) then Err (At (place.Admin index) (Limit key.Script)) else Ok (before.0 ++ step ∷ [], before.1 + step_count step)

abbrev pub optional_steps : ℕ → ℕ → Option Data → Result SoFar ShortError
optional_steps queues commands None = Ok ([], commands)
optional_steps queues commands (Some d) = array_of place.Top key.Admin d >>= in_turn (with_step queues) 0 ([], commands)

-- the steps of `admin`, after so many queues and commands
unfoldable pub steps_in : ℕ → ℕ → Members → Result SoFar ShortError
steps_in queues commands table = optional_steps queues commands (value_in key.Admin table)
