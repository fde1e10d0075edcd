use Rattle.std.proofs.Common.{◌≡◌}
use Rattle.nvme_simulation.specs.Beginnings.{StayUnused}
use Rattle.nvme_simulation.specs.First.{BeginsQueues}
use Rattle.nvme_simulation.specs.Plans.{events_of}
use Rattle.nvme_simulation.specs.Times.{now_of}
use Rattle.nvme_simulation.proofs.beginning.begin_queues.Given as goal

abbrev pub invariant-loop-place : goal.invariant-loop-place
invariant-loop-place l = record {
  time : now_of l.agenda ≡ now_of l.fn.agenda;
  hosts : StayUnused l.fn.hosts l.hosts;
  begins : BeginsQueues l.place l.fn.hosts l.hosts (events_of l.fn.agenda) (events_of l.agenda);
}
