use Rattle.std.proofs.Common.{◌+◌, ◌<◌, ◌≤◌, ap, arith}
use Rattle.std.specs.BinaryHeap.{heap_items}
use Rattle.std.specs.declared.cmp.Reverse.{Reverse}
use Rattle.nvme_clock.specs.declared.events.Event.{Event}
use Rattle.nvme_clock.proofs.EventOrder.{holding, pushed_all, pushed_distinct, pushed_order}
use Rattle.nvme_clock.proofs.events.EventQueue.push.Goals as goal
use Rattle.nvme_clock.proofs.events.EventQueue.push.Goals.{in-Ok, in-Err}

pub invariant_of-self : goal.invariant_of-self
invariant_of-self g c =
    let x : Reverse (Event g.row.E.Denot) = record { 0 = record { at = c.args.at; number = c.args.self.now.next; what = c.args.what } } in
    record {
      ordered = c.in-Ok.ensures.heap_order c.args.self.now.ordered;
      distinct = pushed_distinct x (heap_items c.args.self.now.heap) (heap_items c.push.new.self)
          c.args.self.now.numbered c.args.self.now.distinct c.in-Ok.ensures.permutation;
      numbered = pushed_all (λ (e : Event g.row.E.Denot). e.number < c.args.self.now.next + 1) x (heap_items c.args.self.now.heap)
          (heap_items c.push.new.self) c.in-Ok.ensures.permutation (omega arith)
          (λ k d l. omega (arith, c.args.self.now.numbered k d l));
      to_come = pushed_all (λ (e : Event g.row.E.Denot). c.args.self.now.time ≤ e.at) x (heap_items c.args.self.now.heap)
          (heap_items c.push.new.self) c.in-Ok.ensures.permutation (omega arith) c.args.self.now.to_come;
    }

pub returns-clause-ok : goal.returns-clause-ok
returns-clause-ok g c =
    let x : Reverse (Event g.row.E.Denot) = record { 0 = record { at = c.args.at; number = c.args.self.now.next; what = c.args.what } } in
    elim c.match-push.branch [
      | in-Ok w ↦ rw (w.result-is, w.self-is)
          (ap (holding c.args.self.now.time (c.args.self.now.next + 1))
          (pushed_order x (heap_items c.args.self.now.heap) (heap_items c.push.new.self)
          c.args.self.now.numbered c.args.self.now.distinct w.in-Ok.ensures.permutation))
      | in-Err w ↦ rw w.result-is tt
    ]
