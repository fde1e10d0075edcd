use Rattle.std.proofs.Common.{◌<◌, ◌≤◌}
use Rattle.std.specs.BinaryHeap.{heap_items}
use Rattle.nvme_clock.specs.declared.events.Event.{Event}
use Rattle.nvme_clock.proofs.EventOrder.{empty_all, empty_distinct}
use Rattle.nvme_clock.proofs.events.EventQueue.new.Goals as goal

pub invariant_of-result : goal.invariant_of-result
invariant_of-result g c = record {
  ordered = c.new.ensures.heap_order;
  distinct = empty_distinct (heap_items c.new.result) c.new.ensures.items;
  numbered = empty_all (λ (e : Event g.row.E.Denot). e.number < 0) (heap_items c.new.result) c.new.ensures.items;
  to_come = empty_all (λ (e : Event g.row.E.Denot). 0 ≤ e.at) (heap_items c.new.result) c.new.ensures.items;
}
