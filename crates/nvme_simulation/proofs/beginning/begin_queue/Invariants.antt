use Rattle.std.proofs.Common.{◌≡◌}
use Rattle.nvme_simulation.specs.Plans.{arrivals_at, events_of, planned}
use Rattle.nvme_simulation.specs.Times.{now_of}
use Rattle.nvme_simulation.proofs.beginning.begin_queue.Given as goal

abbrev pub invariant-loop-command : goal.invariant-loop-command
invariant-loop-command l = record {
  time : now_of l.agenda ≡ now_of l.fn.agenda;
  events : events_of l.agenda ≡ planned (arrivals_at 0 l.fn.qid l._command) (events_of l.fn.agenda);
}
