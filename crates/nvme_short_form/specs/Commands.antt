-- The commands of a script by their names, as items of today's workload file. (profile)
use Rattle.std.specs.Prelude.{ℕ, ◌+◌, ◌-◌, ◌*◌, ◌%◌, ◌^◌, Bool, true, false, if◌then◌else◌, codes, nat_eq, List, map, Option, Some, None, Result, Ok}
use Rattle.std.specs.List.{range_with_len}
use Rattle.std.specs.Cmp.Lexicographic.{pointwise}
use Rattle.toml.specs.Data.{Data, Members, as_str}
use Rattle.nvme_short_form.specs.declared.key.Key.TheVariants as key
use Rattle.nvme_short_form.specs.declared.place.Place.{Place}
use Rattle.nvme_short_form.specs.declared.error.ShortError.{ShortError}
use Rattle.nvme_short_form.specs.declared.command.Item.{Item}
use Rattle.nvme_short_form.specs.declared.command.Run.{Run}
use Rattle.nvme_short_form.specs.Keys.{access_keys, flush_keys, raw_keys}
use Rattle.nvme_short_form.specs.Readings.{◌>>=◌, ◌>>◌, only_keys, value_in, value_at, number_at, number_or, bad}

-- the name is this one
abbrev pub is_named : List ℕ → List ℕ → Bool
is_named name word = pointwise nat_eq name word

-- an item alone
abbrev pub once : Item → Run
once item = record { item = item; times = 1; stride = 0 }

-- the commands of a Read or a Write of so many blocks: all of the same blocks, or each of those after the ones before
abbrev pub spread_over : Bool → ℕ → ℕ → Item → Run
spread_over is_sequential blocks count item =
    if is_sequential then record { item = item; times = count; stride = blocks } else once (record item { count = count })

abbrev pub spread_named : Place → Option (List ℕ) → Result Bool ShortError
spread_named place None = bad place key.Spread
spread_named place (Some name) =
    if is_named name (codes "sequential") then Ok true else (if is_named name (codes "same") then Ok false else bad place key.Spread)

abbrev pub optional_spread : Place → Option Data → Result Bool ShortError
optional_spread place None = Ok false
optional_spread place (Some d) = spread_named place (as_str d)

-- whether the blocks of a command come after those of the command before
abbrev pub spread_in : Place → Members → Result Bool ShortError
spread_in place table = optional_spread place (value_in key.Spread table)

-- Read (02h) or Write (01h): NVM Command Set Specification. NLB is zero based
unfoldable pub access_of : Place → ℕ → Members → Result Run ShortError
access_of place opcode table = do
  only_keys place access_keys table
  nsid ← number_or place key.Nsid 1 0 4294967295 table
  slba ← number_or place key.Slba 0 0 9223372036854775807 table
  blocks ← number_or place key.Blocks 1 1 65536 table
  count ← number_or place key.Count 1 1 65536 table
  is_sequential ← spread_in place table
  Ok (spread_over is_sequential blocks count (record { op = opcode; flags = 0; nsid = nsid; prp1 = 0; dw10 = slba; cdw12 = blocks - 1; count = 1 }))

-- Flush (00h)
unfoldable pub flush_of : Place → Members → Result Run ShortError
flush_of place table = do
  only_keys place flush_keys table
  nsid ← number_or place key.Nsid 1 0 4294967295 table
  count ← number_or place key.Count 1 1 65536 table
  Ok (once (record { op = 0; flags = 0; nsid = nsid; prp1 = 0; dw10 = 0; cdw12 = 0; count = count }))

-- an item of today's workload file. Its opcode says that it is one, so that it comes before its keys
unfoldable pub raw_of : Place → Members → Result Item ShortError
raw_of place table = do
  op ← number_at place key.Op 0 255 table
  only_keys place raw_keys table
  flags ← number_or place key.Flags 0 0 255 table
  nsid ← number_or place key.Nsid 0 0 4294967295 table
  prp1 ← number_or place key.Prp1 0 0 9223372036854775807 table
  cdw10 ← number_or place key.Cdw10 0 0 4294967295 table
  cdw11 ← number_or place key.Cdw11 0 0 4294967295 table
  cdw12 ← number_or place key.Cdw12 0 0 4294967295 table
  count ← number_or place key.Count 1 1 65536 table
  Ok (record { op = op; flags = flags; nsid = nsid; prp1 = prp1; dw10 = cdw10 + 4294967296 * cdw11; cdw12 = cdw12; count = count })

-- what `op` names, or an opcode
abbrev pub command_named : Place → Members → Option (List ℕ) → Result Run ShortError
command_named place table None = raw_of place table >>= (λ item. Ok (once item))
command_named place table (Some name) =
    if is_named name (codes "read") then access_of place 2 table
    else (if is_named name (codes "write") then access_of place 1 table
    else (if is_named name (codes "flush") then flush_of place table
    else bad place key.Op))

unfoldable pub command_of : Place → Members → Result Run ShortError
command_of place table = value_at place key.Op table >>= (λ op. command_named place table (as_str op))

-- an item of a run. Command Dwords 10 and 11, which hold the first block, go on by the stride
abbrev pub item_at : Run → ℕ → Item
item_at run index = record run.item { dw10 = (run.item.dw10 + index * run.stride) % 2 ^ 64 }

-- the items of a run
abbrev pub items_of_run : Run → List Item
items_of_run run = map (item_at run) (range_with_len 0 run.times)
