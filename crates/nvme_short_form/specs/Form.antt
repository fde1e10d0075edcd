-- What a short workload file says, or its first fault. (profile)
use Rattle.std.specs.Prelude.{ℕ, ◌+◌, Bool, false, is_some, nat_lt, if◌then◌else◌, codes, List, [], ◌∷◌, ◌++◌, length, Option, Some, None, Result, Ok, Err}
use Rattle.toml.specs.Data.{Data, Items, Members, as_str, as_array, as_table}
use Rattle.nvme_arbiter.specs.declared.settings.Mechanism.{Mechanism}
use Rattle.nvme_arbiter.specs.declared.settings.Mechanism.TheVariants.{RoundRobin, Weighted}
use Rattle.nvme_entry.specs.declared.namespaces.TheConstants.{MAX_NAMESPACES}
use Rattle.nvme_short_form.specs.declared.key.Key.TheVariants as key
use Rattle.nvme_short_form.specs.declared.place.Place.TheVariants.{Top, Queue}
use Rattle.nvme_short_form.specs.declared.error.Fault.TheVariants.{Missing, Limit}
use Rattle.nvme_short_form.specs.declared.error.ShortError.{ShortError}
use Rattle.nvme_short_form.specs.declared.error.ShortError.TheVariants.{At}
use Rattle.nvme_short_form.specs.declared.form.Form.{Form}
use Rattle.nvme_short_form.specs.Keys.{file_keys}
use Rattle.nvme_short_form.specs.Readings.{◌>>=◌, ◌>>◌, in_turn, item_count, only_keys, value_in, whole, array_of, number_at, number_or, bad}
use Rattle.nvme_short_form.specs.Commands.{is_named}
use Rattle.nvme_short_form.specs.Queues.{slots_in, queues_in}
use Rattle.nvme_short_form.specs.Admin.{arbitration_in, steps_in}

-- a short file has the key `version`
abbrev pub is_short : Members → Bool
is_short table = is_some (value_in key.Version table)

abbrev pub mechanism_named : Option (List ℕ) → Result Mechanism ShortError
mechanism_named None = bad Top key.Mechanism
mechanism_named (Some name) =
    if is_named name (codes "round-robin") then Ok RoundRobin else (if is_named name (codes "weighted") then Ok Weighted else bad Top key.Mechanism)

-- ---- a file that says no mechanism has round robin, under which weights and classes have no effect. So one that has
-- weights, or a queue with a class, has to say its mechanism

abbrev pub without_weights : Members → Result (Unit {0}) ShortError
without_weights table = if is_some (value_in key.Weights table) then Err (At Top (Missing key.Mechanism)) else Ok tt

abbrev pub has_class : Option Members → Bool
has_class None = false
has_class (Some queue) = is_some (value_in key.Class queue)

-- a queue, whose number is one more than its index
abbrev pub without_class : ℕ → Unit {0} → Data → Result (Unit {0}) ShortError
without_class index before d = if has_class (as_table d) then Err (At (Queue (index + 1)) (Missing key.Mechanism)) else Ok tt

abbrev pub without_classes_among : Option Items → Result (Unit {0}) ShortError
without_classes_among None = Ok tt
without_classes_among (Some queues) = in_turn without_class 0 tt queues

abbrev pub without_classes : Option Data → Result (Unit {0}) ShortError
without_classes None = Ok tt
without_classes (Some d) = without_classes_among (as_array d)

-- the mechanism of a file that says none
unfoldable pub unsaid_mechanism : Members → Result Mechanism ShortError
unsaid_mechanism table = without_weights table >> without_classes (value_in key.Queue table) >> Ok RoundRobin

abbrev pub optional_mechanism : Members → Option Data → Result Mechanism ShortError
optional_mechanism table None = unsaid_mechanism table
optional_mechanism table (Some d) = mechanism_named (as_str d)

-- the sizes with one more
unfoldable pub with_size : ℕ → List ℕ → Data → Result (List ℕ) ShortError
with_size index before d = whole Top key.Namespaces 1 9223372036854775807 d >>= (λ size. Ok (before ++ size ∷ []))

-- the sizes of the namespaces, in blocks
abbrev pub optional_sizes : Option Data → Result (List ℕ) ShortError
optional_sizes None = Ok (1048576 ∷ [])
optional_sizes (Some d) = do
  items ← array_of Top key.Namespaces d
  if nat_lt MAX_NAMESPACES (item_count items) then Err (At Top (Limit key.Namespaces)) else in_turn with_size 0 [] items

unfoldable pub sizes_in : Members → Result (List ℕ) ShortError
sizes_in table = optional_sizes (value_in key.Namespaces table)

-- the file's own table
unfoldable pub form_of : Members → Result Form ShortError
form_of table = do
  only_keys Top file_keys table
  version ← number_at Top key.Version 1 1 table
  mechanism ← optional_mechanism table (value_in key.Mechanism table)
  arbitration ← arbitration_in Top table
  sizes ← sizes_in table
  patience ← number_or Top key.Patience 100000000 1 4294967295 table
  admin_depth ← slots_in Top key.AdminDepth table
  admin_cq_depth ← slots_in Top key.AdminCqDepth table
  queues ← queues_in table
  steps ← steps_in (length queues.0) queues.1 table
  Ok (record { mechanism = mechanism; arbitration = arbitration; sizes = sizes; patience = patience; admin_depth = admin_depth; admin_cq_depth = admin_cq_depth; queues = queues.0; steps = steps.0 })
