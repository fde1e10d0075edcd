use Rattle.std.proofs.Common.{◌≡◌, drop, ◌≤◌}
use Rattle.toml.specs.View.{items_view}
use Rattle.nvme_workload.specs.Scripts.{most_commands}
use Rattle.nvme_short_form.specs.Readings.{in_turn}
use Rattle.nvme_short_form.specs.Admin.{with_step}
use Rattle.nvme_short_form.proofs.admin.push_items.Given as goal

abbrev pub invariant-loop-index : goal.invariant-loop-index
invariant-loop-index l = record {
  turns : in_turn (with_step l.queues) l.index (l.steps.items, l.commands) (items_view (drop l.index l.items)) ≡ in_turn (with_step l.queues) 0 (l.fn.steps.items, l.before) (items_view l.items);
  fits : l.commands ≤ most_commands;
}
