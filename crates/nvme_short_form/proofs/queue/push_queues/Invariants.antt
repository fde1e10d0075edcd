use Rattle.std.proofs.Common.{◌≡◌, drop, ◌≤◌, length}
use Rattle.toml.specs.View.{items_view}
use Rattle.nvme_workload.specs.Scripts.{most_commands}
use Rattle.nvme_short_form.specs.Readings.{in_turn}
use Rattle.nvme_short_form.specs.Queues.{with_queue}
use Rattle.nvme_short_form.proofs.queue.push_queues.Given as goal

abbrev pub invariant-loop-index : goal.invariant-loop-index
invariant-loop-index l = record {
  turns : in_turn with_queue l.index (l.queues.items, l.commands) (items_view (drop l.index l.items)) ≡ in_turn with_queue 0 (l.fn.queues.items, 0) (items_view l.items);
  fits : l.commands ≤ most_commands;
  count : length l.queues.items ≡ l.index;
  within : l.index ≤ length l.items;
}
