use Rattle.std.proofs.Common.{◌≡◌, [], drop, ◌≤◌, length, map}
use Rattle.toml.specs.View.{items_view, table_view}
use Rattle.nvme_model_form.specs.Readings.{in_turn}
use Rattle.nvme_model_form.specs.Queues.{with_queue}
use Rattle.nvme_model_form.specs.Views.{asking_of}
use Rattle.nvme_model_form.proofs.queue.push_queues.Given as goal

abbrev pub invariant-loop-index : goal.invariant-loop-index
invariant-loop-index l = record {
  turns : in_turn (with_queue l.size (table_view l.device)) l.index (map asking_of l.queues.items) (items_view (drop l.index l.items)) ≡ in_turn (with_queue l.size (table_view l.device)) 0 [] (items_view l.items);
  count : length l.queues.items ≡ l.index;
  within : l.index ≤ length l.items;
}
