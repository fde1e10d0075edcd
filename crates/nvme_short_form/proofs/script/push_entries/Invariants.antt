use Rattle.std.proofs.Common.{◌≡◌, drop, ◌≤◌}
use Rattle.toml.specs.View.{items_view}
use Rattle.nvme_workload.specs.Scripts.{most_commands}
use Rattle.nvme_short_form.specs.Readings.{in_turn}
use Rattle.nvme_short_form.specs.Scripts.{with_entry}
use Rattle.nvme_short_form.proofs.script.push_entries.Given as goal

abbrev pub invariant-loop-index : goal.invariant-loop-index
invariant-loop-index l = record {
  turns : in_turn (with_entry l.queue) l.index (l.script.items, l.commands) (items_view (drop l.index l.entries)) ≡ in_turn (with_entry l.queue) 0 (l.fn.script.items, l.before) (items_view l.entries);
  fits : l.commands ≤ most_commands;
}
