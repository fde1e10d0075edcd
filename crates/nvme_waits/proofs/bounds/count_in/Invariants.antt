use Rattle.std.proofs.Common.{◌≡◌, ◌≤◌, take}
use Rattle.nvme_waits.specs.Bounds.{count_in}
use Rattle.nvme_waits.proofs.bounds.count_in.Given as goal

-- the queues of the class so far
abbrev pub invariant-loop-queue : goal.invariant-loop-queue
invariant-loop-queue l = record {
  few : l.count ≤ l.queue-index;
  value : l.count ≡ count_in (take l.queue-index l.queues) l.class;
}
