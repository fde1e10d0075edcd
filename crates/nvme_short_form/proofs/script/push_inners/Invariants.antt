use Rattle.std.proofs.Common.{◌≡◌, drop, ◌≤◌}
use Rattle.toml.specs.View.{items_view}
use Rattle.nvme_workload.specs.Scripts.{most_commands}
use Rattle.nvme_short_form.specs.Readings.{in_turn}
use Rattle.nvme_short_form.specs.Scripts.{with_inner}
use Rattle.nvme_short_form.proofs.script.push_inners.Given as goal

abbrev pub invariant-loop-index : goal.invariant-loop-index
invariant-loop-index l = record {
  turns : in_turn (with_inner l.place) l.index (l.script.items, l.commands) (items_view (drop l.index l.items)) ≡ in_turn (with_inner l.place) 0 (l.fn.script.items, 0) (items_view l.items);
  fits : l.commands ≤ most_commands;
}
