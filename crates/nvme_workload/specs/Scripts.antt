-- The script of a submission region: its items, and the commands that they stand for. (profile)
use Rattle.std.specs.Prelude.{ℕ, ◌+◌, nat_lt, if◌then◌else◌, List, [], ◌++◌, length, map, Result, Ok, Err}
use Rattle.std.specs.List.{range_with_len}
use Rattle.toml.specs.Data.{Data}
use Rattle.nvme_entry.specs.declared.submission.Sqe.{Sqe}
use Rattle.nvme_workload.specs.declared.key.Key.TheVariants as key
use Rattle.nvme_workload.specs.declared.flaw.Flaw.TheVariants.{Most}
use Rattle.nvme_workload.specs.declared.flaw.PlanError.{PlanError}
use Rattle.nvme_workload.specs.declared.flaw.PlanError.TheVariants.{At}
use Rattle.nvme_workload.specs.declared.place.Spot.{Spot}
use Rattle.nvme_workload.specs.declared.place.Spot.TheVariants as spot
use Rattle.nvme_workload.specs.Keys.{command_keys}
use Rattle.nvme_workload.specs.Readings.{◌>>=◌, ◌>>◌, in_turn, array_of, table_of, only_keys, number_at, number_or}

-- the most commands of all scripts together
abbrev pub most_commands : ℕ
most_commands = 65536

-- an item, after a number of commands of all scripts: the command, and how often it stands there
unfoldable pub command_of : Spot → ℕ → Data → Result (Sqe × ℕ) PlanError
command_of at before d = do
  table ← table_of at key.Script d
  only_keys at command_keys table
  op ← number_at at key.Op 0 255 table
  flags ← number_or at key.Flags 0 0 255 table
  nsid ← number_or at key.Nsid 0 0 4294967295 table
  prp1 ← number_or at key.Prp1 0 0 9223372036854775807 table
  cdw10 ← number_or at key.Cdw10 0 0 4294967295 table
  cdw11 ← number_or at key.Cdw11 0 0 4294967295 table
  cdw12 ← number_or at key.Cdw12 0 0 4294967295 table
  count ← number_or at key.Count 1 1 65536 table
  if nat_lt most_commands (before + count) then Err (At at (Most key.Count)) else Ok (record { opcode = op; flags = flags; cid = 0; nsid = nsid; cdw2 = 0; cdw3 = 0; mptr = 0; prp1 = prp1; prp2 = 0; cdw10 = cdw10; cdw11 = cdw11; cdw12 = cdw12; cdw13 = 0; cdw14 = 0; cdw15 = 0 }, count)

-- n equal commands: the CID of each is its index in the script
abbrev pub copies_of : Sqe → ℕ → ℕ → List Sqe
copies_of command first n = map (λ index. record command { cid = index }) (range_with_len first n)

-- the script of this region with the commands of one more item. `earlier` commands stand in the scripts before it
unfoldable pub with_item : ℕ → ℕ → ℕ → List Sqe → Data → Result (List Sqe) PlanError
with_item region earlier index script d = do
  more ← command_of (spot.Item region index) (earlier + length script) d
  Ok (script ++ copies_of more.0 (length script) more.1)

unfoldable pub script_of : ℕ → ℕ → Data → Result (List Sqe) PlanError
script_of region earlier d = array_of (spot.Submission region) key.Script d >>= in_turn (with_item region earlier) 0 []
