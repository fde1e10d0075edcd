-- All faults of a short workload file. Each table is looked at key by key, in the order in which it is read, and no fault keeps the
-- others from being told. How many commands there are is no matter of one table: that they are too many is told where it is the
-- first fault. (profile)
use Rattle.std.specs.Prelude.{◌≡◌, ℕ, ◌+◌, ◌==◌, Bool, true, false, nat_lt, if◌then◌else◌, codes, List, [], ◌∷◌, ◌++◌, length, Option, Some, None, Result, Ok, Err}
use Rattle.std.specs.Result.{result_err}
use Rattle.std.specs.List.{list_any}
use Rattle.toml.specs.Data.{Data, Items, no_items, item, Members, no_members, member, as_str, as_array, as_table}
use Rattle.nvme_admin.specs.declared.bounds.TheConstants.{MAX_IO_QUEUES}
use Rattle.nvme_short_form.specs.declared.key.Key.{Key}
use Rattle.nvme_short_form.specs.declared.key.Key.TheVariants as key
use Rattle.nvme_short_form.specs.declared.place.Place.{Place}
use Rattle.nvme_short_form.specs.declared.place.Place.TheVariants as place
use Rattle.nvme_short_form.specs.declared.error.Fault.TheVariants.{Missing, Bad, Unknown, Limit, Written}
use Rattle.nvme_short_form.specs.declared.error.ShortError.{ShortError}
use Rattle.nvme_short_form.specs.declared.error.ShortError.TheVariants.{At}
use Rattle.nvme_short_form.specs.declared.flaw.Flaw.{Flaw}
use Rattle.nvme_short_form.specs.Keys.{file_keys, weight_keys, queue_keys, shared_keys, access_keys, flush_keys, raw_keys, repeat_keys, queue_op_keys, abort_keys, set_keys, get_keys}
use Rattle.nvme_short_form.specs.Readings.{◌>>=◌, item_count, is_known, value_in, whole, number_at, number_or, bad}
use Rattle.nvme_short_form.specs.Commands.{is_named, spread_in}
use Rattle.nvme_short_form.specs.Queues.{slots_in, qprio_in}
use Rattle.nvme_short_form.specs.Admin.{optional_burst, weights_place, optional_feature}
use Rattle.nvme_short_form.specs.Form.{form_of, optional_mechanism, sizes_in}

-- ---- faults of readings

abbrev pub one_given : Option ℕ → Option ShortError → List Flaw
one_given inner None = []
one_given inner (Some e) = record { error = e; inner = inner; nth = 0 } ∷ []

-- the faults that there are among these, of an item within one that repeats it or of another table
abbrev pub given : Option ℕ → List (Option ShortError) → List Flaw
given inner [] = []
given inner (e ∷ es) = one_given inner e ++ given inner es

-- a fault for each unknown key of a table, behind so many
abbrev pub one_unknown : Place → Option ℕ → List Key → ℕ → List ℕ → List Flaw
one_unknown at inner keys n name = if is_known keys name then [] else record { error = At at Unknown; inner = inner; nth = n } ∷ []

abbrev pub unknown_from : Place → Option ℕ → List Key → ℕ → Members → List Flaw
unknown_from at inner keys n no_members = []
unknown_from at inner keys n (member name d ms) = one_unknown at inner keys n name ++ unknown_from at inner keys (n + length (one_unknown at inner keys n name)) ms

abbrev pub unknown : Place → Option ℕ → List Key → Members → List Flaw
unknown at inner keys table = unknown_from at inner keys 0 table

-- the faults of items by their indices
abbrev pub each_from : (ℕ → Data → List Flaw) → ℕ → Items → List Flaw
each_from flaws index no_items = []
each_from flaws index (item d ds) = flaws index d ++ each_from flaws (index + 1) ds

-- of the items of an array, and of another value in its place this one
abbrev pub of_array : Place → Key → (ℕ → Data → List Flaw) → Option Items → List Flaw
of_array at k flaws None = given None (Some (At at (Bad k)) ∷ [])
of_array at k flaws (Some items) = each_from flaws 0 items

-- of a table, and of another value in its place this one
abbrev pub of_table : Place → Option ℕ → Key → (Members → List Flaw) → Option Members → List Flaw
of_table at inner k flaws None = given inner (Some (At at (Bad k)) ∷ [])
of_table at inner k flaws (Some table) = flaws table

-- ---- commands

unfoldable pub access_flaws : Place → Option ℕ → Members → List Flaw
access_flaws at inner table =
    unknown at inner access_keys table
    ++ given inner
    (result_err (number_or at key.Nsid 1 0 4294967295 table)
    ∷ result_err (number_or at key.Slba 0 0 9223372036854775807 table)
    ∷ result_err (number_or at key.Blocks 1 1 65536 table)
    ∷ result_err (number_or at key.Count 1 1 65536 table)
    ∷ result_err (spread_in at table)
    ∷ [])

unfoldable pub flush_flaws : Place → Option ℕ → Members → List Flaw
flush_flaws at inner table =
    unknown at inner flush_keys table
    ++ given inner (result_err (number_or at key.Nsid 1 0 4294967295 table) ∷ result_err (number_or at key.Count 1 1 65536 table) ∷ [])

unfoldable pub raw_key_flaws : Place → Option ℕ → Members → List Flaw
raw_key_flaws at inner table =
    unknown at inner raw_keys table
    ++ given inner
    (result_err (number_or at key.Flags 0 0 255 table)
    ∷ result_err (number_or at key.Nsid 0 0 4294967295 table)
    ∷ result_err (number_or at key.Prp1 0 0 9223372036854775807 table)
    ∷ result_err (number_or at key.Cdw10 0 0 4294967295 table)
    ∷ result_err (number_or at key.Cdw11 0 0 4294967295 table)
    ∷ result_err (number_or at key.Cdw12 0 0 4294967295 table)
    ∷ result_err (number_or at key.Count 1 1 65536 table)
    ∷ [])

-- an opcode at fault doesn't say which keys may stand beside it
abbrev pub opcode_flaws : Place → Option ℕ → Members → Result ℕ ShortError → List Flaw
opcode_flaws at inner table (Ok op) = raw_key_flaws at inner table
opcode_flaws at inner table (Err e) = one_given inner (Some e)

abbrev pub raw_flaws : Place → Option ℕ → Members → List Flaw
raw_flaws at inner table = opcode_flaws at inner table (number_at at key.Op 0 255 table)

abbrev pub named_flaws : Place → Option ℕ → Members → Option (List ℕ) → List Flaw
named_flaws at inner table None = raw_flaws at inner table
named_flaws at inner table (Some name) =
    if is_named name (codes "read") then access_flaws at inner table
    else (if is_named name (codes "write") then access_flaws at inner table
    else (if is_named name (codes "flush") then flush_flaws at inner table
    else given inner (Some (At at (Bad key.Op)) ∷ [])))

-- by what is at `op`
abbrev pub op_flaws : Place → Option ℕ → Members → Option Data → List Flaw
op_flaws at inner table None = given inner (Some (At at (Missing key.Op)) ∷ [])
op_flaws at inner table (Some d) = named_flaws at inner table (as_str d)

unfoldable pub command_flaws : Place → Option ℕ → Members → List Flaw
command_flaws at inner table = op_flaws at inner table (value_in key.Op table)

-- ---- scripts

-- an item of the script that an entry repeats
abbrev pub inner_flaws : Place → ℕ → Data → List Flaw
inner_flaws at index d = of_table at (Some index) key.Script (command_flaws at (Some index)) (as_table d)

abbrev pub repeated_flaws : Place → Option Data → List Flaw
repeated_flaws at None = given None (Some (At at (Missing key.Script)) ∷ [])
repeated_flaws at (Some d) = of_array at key.Script (inner_flaws at) (as_array d)

unfoldable pub repeat_flaws : Place → Members → List Flaw
repeat_flaws at table =
    unknown at None repeat_keys table
    ++ given None (result_err (number_at at key.Repeat 1 65536 table) ∷ [])
    ++ repeated_flaws at (value_in key.Script table)

abbrev pub repeating_flaws : Place → Members → Option Data → List Flaw
repeating_flaws at table None = command_flaws at None table
repeating_flaws at table (Some d) = repeat_flaws at table

abbrev pub entry_flaws : ℕ → ℕ → Data → List Flaw
entry_flaws queue index d =
    of_table (place.Item queue index) None key.Script (λ table. repeating_flaws (place.Item queue index) table (value_in key.Repeat table)) (as_table d)

abbrev pub script_flaws : ℕ → Option Data → List Flaw
script_flaws queue None = []
script_flaws queue (Some d) = of_array (place.Queue queue) key.Script (entry_flaws queue) (as_array d)

-- ---- queues, behind those with these completion queues

abbrev pub is_among : List ℕ → ℕ → Bool
is_among cqs cq = list_any (λ c. c == cq) cqs

unfoldable pub shared_among : Place → List ℕ → Data → Result ℕ ShortError
shared_among at cqs d = whole at key.Cq 1 MAX_IO_QUEUES d >>= (λ cq. if is_among cqs cq then Ok cq else bad at key.Cq)

abbrev pub cq_flaws : List ℕ → Members → Option Data → List Flaw
cq_flaws cqs table None = unknown (place.Queue (length cqs + 1)) None queue_keys table
cq_flaws cqs table (Some d) =
    unknown (place.Queue (length cqs + 1)) None shared_keys table ++ given None (result_err (shared_among (place.Queue (length cqs + 1)) cqs d) ∷ [])

unfoldable pub queue_table_flaws : List ℕ → Members → List Flaw
queue_table_flaws cqs table =
    cq_flaws cqs table (value_in key.Cq table)
    ++ given None
    (result_err (qprio_in (place.Queue (length cqs + 1)) table)
    ∷ result_err (slots_in (place.Queue (length cqs + 1)) key.Depth table)
    ∷ result_err (slots_in (place.Queue (length cqs + 1)) key.CqDepth table)
    ∷ [])
    ++ script_flaws (length cqs + 1) (value_in key.Script table)

abbrev pub queue_flaws : List ℕ → Data → List Flaw
queue_flaws cqs d = of_table (place.Queue (length cqs + 1)) None key.Queue (queue_table_flaws cqs) (as_table d)

-- its completion queue: one of its own where what is at `cq` is at fault
abbrev pub cq_or : ℕ → Result ℕ ShortError → ℕ
cq_or own (Ok cq) = cq
cq_or own (Err e) = own

abbrev pub optional_cq : List ℕ → Option Data → ℕ
optional_cq cqs None = length cqs + 1
optional_cq cqs (Some d) = cq_or (length cqs + 1) (shared_among (place.Queue (length cqs + 1)) cqs d)

abbrev pub cq_among : List ℕ → Option Members → ℕ
cq_among cqs None = length cqs + 1
cq_among cqs (Some table) = optional_cq cqs (value_in key.Cq table)

abbrev pub queues_from : List ℕ → Items → List Flaw
queues_from cqs no_items = []
queues_from cqs (item d ds) = queue_flaws cqs d ++ queues_from (cqs ++ cq_among cqs (as_table d) ∷ []) ds

-- where there are too many, none is looked at
abbrev pub queues_among : Option Items → List Flaw
queues_among None = given None (Some (At place.Top (Bad key.Queue)) ∷ [])
queues_among (Some items) = if nat_lt MAX_IO_QUEUES (item_count items) then given None (Some (At place.Top (Limit key.Queue)) ∷ []) else queues_from [] items

abbrev pub all_queue_flaws : Option Data → List Flaw
all_queue_flaws None = []
all_queue_flaws (Some d) = queues_among (as_array d)

-- ---- admin commands

unfoldable pub weight_flaws : Place → Members → List Flaw
weight_flaws at table =
    unknown at None weight_keys table
    ++ given None
    (result_err (number_or at key.High 1 1 256 table)
    ∷ result_err (number_or at key.Medium 1 1 256 table)
    ∷ result_err (number_or at key.Low 1 1 256 table)
    ∷ [])

abbrev pub optional_weight_flaws : Place → Option Data → List Flaw
optional_weight_flaws at None = []
optional_weight_flaws at (Some d) = of_table at None key.Weights (weight_flaws (weights_place at)) (as_table d)

unfoldable pub arbitration_flaws : Place → Members → List Flaw
arbitration_flaws at table =
    given None (result_err (optional_burst at (value_in key.Burst table)) ∷ []) ++ optional_weight_flaws at (value_in key.Weights table)

-- where there are so many queues
unfoldable pub queue_op_flaws : Place → ℕ → Members → List Flaw
queue_op_flaws at queues table = unknown at None queue_op_keys table ++ given None (result_err (number_at at key.Number 1 queues table) ∷ [])

unfoldable pub abort_flaws : Place → Members → List Flaw
abort_flaws at table =
    unknown at None abort_keys table ++ given None (result_err (number_at at key.Target 0 65535 table) ∷ result_err (number_at at key.Cid 0 65535 table) ∷ [])

unfoldable pub set_flaws : Place → Members → List Flaw
set_flaws at table = unknown at None set_keys table ++ arbitration_flaws at table

unfoldable pub get_flaws : Place → Members → List Flaw
get_flaws at table = unknown at None get_keys table ++ given None (result_err (optional_feature at (value_in key.Feature table)) ∷ [])

abbrev pub step_named_flaws : Place → ℕ → Members → Option (List ℕ) → List Flaw
step_named_flaws at queues table None = raw_flaws at None table
step_named_flaws at queues table (Some name) =
    if is_named name (codes "create") then queue_op_flaws at queues table
    else (if is_named name (codes "delete") then queue_op_flaws at queues table
    else (if is_named name (codes "abort") then abort_flaws at table
    else (if is_named name (codes "set-arbitration") then set_flaws at table
    else (if is_named name (codes "get-features") then get_flaws at table
    else given None (Some (At at (Bad key.Op)) ∷ [])))))

abbrev pub step_op_flaws : Place → ℕ → Members → Option Data → List Flaw
step_op_flaws at queues table None = given None (Some (At at (Missing key.Op)) ∷ [])
step_op_flaws at queues table (Some d) = step_named_flaws at queues table (as_str d)

abbrev pub step_flaws : ℕ → ℕ → Data → List Flaw
step_flaws queues index d =
    of_table (place.Admin index) None key.Admin (λ table. step_op_flaws (place.Admin index) queues table (value_in key.Op table)) (as_table d)

abbrev pub admin_flaws : ℕ → Option Data → List Flaw
admin_flaws queues None = []
admin_flaws queues (Some d) = of_array place.Top key.Admin (step_flaws queues) (as_array d)

-- ---- the file

abbrev pub count_among : Option Items → ℕ
count_among None = 0
count_among (Some items) = item_count items

-- how many queues there are
abbrev pub queue_count : Option Data → ℕ
queue_count None = 0
queue_count (Some d) = count_among (as_array d)

-- of the keys of its own table that come before its queues
unfoldable pub settings_flaws : Members → List Flaw
settings_flaws table =
    unknown place.Top None file_keys table
    ++ given None (result_err (number_at place.Top key.Version 1 1 table) ∷ result_err (optional_mechanism table (value_in key.Mechanism table)) ∷ [])
    ++ arbitration_flaws place.Top table
    ++ given None
    (result_err (sizes_in table)
    ∷ result_err (number_or place.Top key.Patience 100000000 1 4294967295 table)
    ∷ result_err (slots_in place.Top key.AdminDepth table)
    ∷ result_err (slots_in place.Top key.AdminCqDepth table)
    ∷ [])

-- by the order in which the tables and their keys are read
unfoldable pub table_flaws : Members → List Flaw
table_flaws table =
    settings_flaws table ++ all_queue_flaws (value_in key.Queue table) ++ admin_flaws (queue_count (value_in key.Queue table)) (value_in key.Admin table)

-- the fault is one of no table alone: there are too many commands
abbrev pub is_of_count : ShortError → Bool
is_of_count (At at (Limit key.Script)) = true
is_of_count (At at (Written error)) = true
is_of_count error = false

abbrev pub alone : ShortError → Flaw
alone e = record { error = e; inner = None; nth = 0 }

-- the first of the faults of tables, as the one at which reading ends
abbrev pub leading : ShortError → List Flaw → Flaw
leading e [] = alone e
leading e (flaw ∷ flaws) = record flaw { error = e }

abbrev pub behind : List Flaw → List Flaw
behind [] = []
behind (flaw ∷ flaws) = flaws

-- the faults of tables, led by the one at which reading ends: it is the first of them, or else one of no table
abbrev pub led_by : ShortError → List Flaw → List Flaw
led_by e flaws = if is_of_count e then alone e ∷ flaws else leading e flaws ∷ behind flaws

-- all faults of a table: none where reading takes it, and otherwise those that its first one leads
abbrev pub all_flaws : {A : Type 0} → Members → Result A ShortError → List Flaw
all_flaws table (Ok x) = []
all_flaws table (Err e) = led_by e (table_flaws table)

-- ---- the law

abbrev pub first_of : List Flaw → Option ShortError
first_of [] = None
first_of (flaw ∷ flaws) = Some flaw.error

-- The first of all faults of a table is the one that reading it gives, and there is none exactly where it gives none.
abbrev pub FaultsBeginWithTheFirst : Type 0
FaultsBeginWithTheFirst = (table : Members) → first_of (all_flaws table (form_of table)) ≡ result_err (form_of table)
