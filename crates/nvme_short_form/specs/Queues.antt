-- The I/O queues. (profile)
use Rattle.std.specs.Prelude.{ℕ, ◌+◌, ◌==◌, Bool, nat_lt, if◌then◌else◌, codes, List, [], ◌∷◌, ◌++◌, length, Option, Some, None, Result, Ok, Err}
use Rattle.std.specs.List.{list_any}
use Rattle.toml.specs.Data.{Data, Members, as_str}
use Rattle.nvme_admin.specs.declared.bounds.TheConstants.{MAX_IO_QUEUES, MIN_SLOTS, MAX_SLOTS}
use Rattle.nvme_workload.specs.Scripts.{most_commands}
use Rattle.nvme_short_form.specs.declared.key.Key.{Key}
use Rattle.nvme_short_form.specs.declared.key.Key.TheVariants as key
use Rattle.nvme_short_form.specs.declared.place.Place.{Place}
use Rattle.nvme_short_form.specs.declared.place.Place.TheVariants as place
use Rattle.nvme_short_form.specs.declared.error.Fault.TheVariants.{Limit}
use Rattle.nvme_short_form.specs.declared.error.ShortError.{ShortError}
use Rattle.nvme_short_form.specs.declared.error.ShortError.TheVariants.{At}
use Rattle.nvme_short_form.specs.declared.queue.Queue.{Queue}
use Rattle.nvme_short_form.specs.Keys.{queue_keys, shared_keys}
use Rattle.nvme_short_form.specs.Readings.{◌>>=◌, ◌>>◌, in_turn, item_count, only_keys, value_in, whole, array_of, table_of, number_or, bad}
use Rattle.nvme_short_form.specs.Commands.{is_named}
use Rattle.nvme_short_form.specs.Scripts.{script_in}

-- the slots of a ring
abbrev pub slots_in : Place → Key → Members → Result ℕ ShortError
slots_in at k table = number_or at k 1024 MIN_SLOTS MAX_SLOTS table

-- QPRIO: Base Specification, Create I/O Submission Queue, CDW11 02:01
abbrev pub qprio_named : Place → Option (List ℕ) → Result ℕ ShortError
qprio_named at None = bad at key.Class
qprio_named at (Some name) =
    if is_named name (codes "urgent") then Ok 0
    else (if is_named name (codes "high") then Ok 1
    else (if is_named name (codes "medium") then Ok 2
    else (if is_named name (codes "low") then Ok 3
    else bad at key.Class)))

abbrev pub optional_qprio : Place → Option Data → Result ℕ ShortError
optional_qprio at None = Ok 2
optional_qprio at (Some d) = qprio_named at (as_str d)

abbrev pub qprio_in : Place → Members → Result ℕ ShortError
qprio_in at table = optional_qprio at (value_in key.Class table)

-- some queue of these uses the completion queue of this identifier
abbrev pub has_cq : List Queue → ℕ → Bool
has_cq queues cq = list_any (λ q. q.cq == cq) queues

-- the identifier of the completion queue: its own, or that of an earlier queue with one of its own
unfoldable pub shared_cq : Place → List Queue → Data → Result ℕ ShortError
shared_cq at before d = do
  cq ← whole at key.Cq 1 MAX_IO_QUEUES d
  if has_cq before cq then Ok cq else bad at key.Cq

-- the keys of a queue and its completion queue, by what is at `cq`
abbrev pub cq_of : List Queue → Members → Option Data → Result ℕ ShortError
cq_of before table None = only_keys (place.Queue (length before + 1)) queue_keys table >> Ok (length before + 1)
cq_of before table (Some d) = only_keys (place.Queue (length before + 1)) shared_keys table >> shared_cq (place.Queue (length before + 1)) before d

-- the Creates of a queue: of its completion queue, where it is its own, and of its submission queue
abbrev pub create_count : ℕ → ℕ → ℕ
create_count number cq = if cq == number then 2 else 1

-- the number of all commands so far with this many Creates
abbrev pub with_creates : Place → ℕ → ℕ → Result ℕ ShortError
with_creates at before n = if nat_lt most_commands (before + n) then Err (At at (Limit key.Script)) else Ok (before + n)

-- the queues so far, with the number of all commands so far
abbrev pub SoFar : Type 0
SoFar = List Queue × ℕ

-- one more queue
unfoldable pub with_queue : ℕ → SoFar → Data → Result SoFar ShortError
with_queue index before d = do
  table ← table_of (place.Queue (length before.0 + 1)) key.Queue d
  cq ← cq_of before.0 table (value_in key.Cq table)
  qprio ← qprio_in (place.Queue (length before.0 + 1)) table
  depth ← slots_in (place.Queue (length before.0 + 1)) key.Depth table
  cq_depth ← slots_in (place.Queue (length before.0 + 1)) key.CqDepth table
  commands ← with_creates (place.Queue (length before.0 + 1)) before.1 (create_count (length before.0 + 1) cq)
  script ← script_in (length before.0 + 1) commands table
  Ok (before.0 ++ record { number = length before.0 + 1; qprio = qprio; depth = depth; cq = cq; cq_depth = cq_depth; script = script.0 } ∷ [], script.1)

abbrev pub optional_queues : Option Data → Result SoFar ShortError
optional_queues None = Ok ([], 0)
optional_queues (Some d) = do
  items ← array_of place.Top key.Queue d
  if nat_lt MAX_IO_QUEUES (item_count items) then Err (At place.Top (Limit key.Queue)) else in_turn with_queue 0 ([], 0) items

unfoldable pub queues_in : Members → Result SoFar ShortError
queues_in table = optional_queues (value_in key.Queue table)
