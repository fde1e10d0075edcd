-- The script of a queue: its entries, and the items of today's workload file that they stand for. (profile)
use Rattle.std.specs.Prelude.{ℕ, zero, suc, ◌+◌, ◌*◌, nat_lt, if◌then◌else◌, List, [], ◌++◌, Option, Some, None, Result, Ok, Err}
use Rattle.toml.specs.Data.{Data, Members}
use Rattle.nvme_workload.specs.Scripts.{most_commands}
use Rattle.nvme_short_form.specs.declared.key.Key.TheVariants as key
use Rattle.nvme_short_form.specs.declared.place.Place.{Place}
use Rattle.nvme_short_form.specs.declared.place.Place.TheVariants as place
use Rattle.nvme_short_form.specs.declared.error.Fault.TheVariants.{Limit}
use Rattle.nvme_short_form.specs.declared.error.ShortError.{ShortError}
use Rattle.nvme_short_form.specs.declared.error.ShortError.TheVariants.{At}
use Rattle.nvme_short_form.specs.declared.command.Item.{Item}
use Rattle.nvme_short_form.specs.Keys.{repeat_keys}
use Rattle.nvme_short_form.specs.Readings.{◌>>=◌, ◌>>◌, in_turn, only_keys, value_in, value_at, array_of, table_of, number_at}
use Rattle.nvme_short_form.specs.Commands.{command_of, items_of_run}

-- a script so far, with the number of all commands of the file so far
abbrev pub SoFar : Type 0
SoFar = List Item × ℕ

-- more items, which stand for this many commands
abbrev pub with_items : Place → SoFar → List Item → ℕ → Result SoFar ShortError
with_items at before items commands =
    if nat_lt most_commands (before.1 + commands) then Err (At at (Limit key.Script)) else Ok (before.0 ++ items, before.1 + commands)

-- one more command that is named, or a raw item
unfoldable pub with_command : Place → SoFar → Members → Result SoFar ShortError
with_command at before table = do
  run ← command_of at table
  with_items at before (items_of_run run) (run.times * run.item.count)

-- the script within an entry that repeats it. It repeats nothing itself
unfoldable pub with_inner : Place → ℕ → SoFar → Data → Result SoFar ShortError
with_inner at index before d = table_of at key.Script d >>= with_command at before

-- a list n times
abbrev pub copies : ℕ → List Item → List Item
copies zero items = []
copies (suc n) items = copies n items ++ items

-- an entry that repeats a script
unfoldable pub with_repeat : Place → SoFar → Members → Result SoFar ShortError
with_repeat at before table = do
  only_keys at repeat_keys table
  n ← number_at at key.Repeat 1 65536 table
  inner ← value_at at key.Script table >>= array_of at key.Script >>= in_turn (with_inner at) 0 ([], 0)
  with_items at before (copies n inner.0) (n * inner.1)

abbrev pub repeating : Place → SoFar → Members → Option Data → Result SoFar ShortError
repeating at before table None = with_command at before table
repeating at before table (Some d) = with_repeat at before table

-- one more entry of the script of a queue
unfoldable pub with_entry : ℕ → ℕ → SoFar → Data → Result SoFar ShortError
with_entry queue index before d = do
  table ← table_of (place.Item queue index) key.Script d
  repeating (place.Item queue index) before table (value_in key.Repeat table)

-- the script of a queue, which may be left out
abbrev pub optional_script : ℕ → ℕ → Option Data → Result SoFar ShortError
optional_script queue commands None = Ok ([], commands)
optional_script queue commands (Some d) = array_of (place.Queue queue) key.Script d >>= in_turn (with_entry queue) 0 ([], commands)

unfoldable pub script_in : ℕ → ℕ → Members → Result SoFar ShortError
script_in queue commands table = optional_script queue commands (value_in key.Script table)
