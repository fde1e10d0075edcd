use Rattle.std.proofs.Common.{◌<◌, ◌≤◌, List, ap, sym}
use Rattle.std.specs.BinaryHeap.{heap_items}
use Rattle.nvme_clock.specs.declared.events.Event.{Event}
use Rattle.nvme_clock.specs.Held.{first_of, held}
use Rattle.nvme_clock.proofs.EventOrder.{none_earlier, popped_distinct, popped_first, popped_order, popped_others}
use Rattle.nvme_clock.proofs.events.EventQueue.pop.Goals as goal

pub invariant_of-self-2 : goal.invariant_of-self-2
invariant_of-self-2 g c = record {
  ordered = (c.in-Some.ensures.heap_order c.args.self.now.ordered).0;
  distinct = popped_distinct c.in-Some.field-0 (heap_items c.args.self.now.heap) (heap_items c.pop.new.self)
      c.args.self.now.distinct c.in-Some.ensures.permutation;
  numbered = popped_others (λ (e : Event g.row.E.Denot). e.number < c.args.self.now.next) c.in-Some.field-0
      (heap_items c.args.self.now.heap) (heap_items c.pop.new.self) c.in-Some.ensures.permutation c.args.self.now.numbered;
  to_come = none_earlier c.in-Some.field-0 (heap_items c.pop.new.self) (c.in-Some.ensures.below_top c.args.self.now.ordered);
}

pub returns-clause-value : goal.returns-clause-value
returns-clause-value g c =
    ap (λ (es : List (Event g.row.E.Denot)). first_of (held c.args.self.now) es)
    (sym (popped_order c.in-Some.field-0 (heap_items c.args.self.now.heap) (heap_items c.pop.new.self) c.args.self.now.distinct
    c.in-Some.ensures.permutation (c.in-Some.ensures.below_top c.args.self.now.ordered)))

pub returns-clause-forward : goal.returns-clause-forward
returns-clause-forward g c =
    popped_first (λ (e : Event g.row.E.Denot). c.args.self.now.time ≤ e.at) c.in-Some.field-0 (heap_items c.args.self.now.heap)
    (heap_items c.pop.new.self) c.in-Some.ensures.permutation c.args.self.now.to_come
