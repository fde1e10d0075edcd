use Rattle.std.proofs.Common.{◌≡◌, ◌+◌, ◌≤◌, length, drop}
use Rattle.toml.specs.View.{items_view}
use Rattle.nvme_workload.specs.Readings.{in_turn}
use Rattle.nvme_workload.specs.Scripts.{most_commands, with_item}
use Rattle.nvme_workload.specs.Sound.{IsNumbered}
use Rattle.nvme_workload.proofs.scripts.push_items.Given as goal

abbrev pub invariant-loop-index : goal.invariant-loop-index
invariant-loop-index l = record {
  fit : l.earlier + length l.script.items ≤ most_commands;
  numbered : IsNumbered l.fn.script.items → IsNumbered l.script.items;
  turns : in_turn (with_item l.region l.earlier) l.index l.script.items (items_view (drop l.index l.items)) ≡ in_turn (with_item l.region l.earlier) 0 l.fn.script.items (items_view l.items);
}
