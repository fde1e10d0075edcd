use Rattle.std.proofs.Common.{◌≡◌, [], length, drop}
use Rattle.serde_json.specs.View.{items_view}
use Rattle.nvme_trace.specs.Format.{queues_from}
use Rattle.nvme_trace.proofs.records.queues_of.Given as goal

abbrev pub invariant-loop-item : goal.invariant-loop-item
invariant-loop-item l = record {
  count : length l.seen.items ≡ l.item-index;
  turns : queues_from l.seen.items (items_view (drop l.item-index l.item-items)) ≡ queues_from [] (items_view l.item-items);
}
