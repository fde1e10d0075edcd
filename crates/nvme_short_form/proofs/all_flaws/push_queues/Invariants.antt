use Rattle.std.proofs.Common.{◌≡◌, ◌++◌, [], drop, length}
use Rattle.toml.specs.View.{items_view}
use Rattle.nvme_short_form.specs.Flaws.{queues_from}
use Rattle.nvme_short_form.proofs.all_flaws.push_queues.Given as goal

abbrev pub invariant-loop-item : goal.invariant-loop-item
invariant-loop-item l = record {
  flaws : l.flaws.items ++ queues_from l.cqs.items (items_view (drop l.item-index l.items)) ≡ l.fn.flaws.items ++ queues_from [] (items_view l.items);
  count : length l.cqs.items ≡ l.item-index;
}
