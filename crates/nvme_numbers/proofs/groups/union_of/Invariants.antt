use Rattle.std.proofs.Common.{◌≡◌, Some, take}
use Rattle.nvme_latency.specs.Times.{times_of}
use Rattle.nvme_numbers.specs.Told.{latencies_in}
use Rattle.nvme_numbers.proofs.groups.union_of.Given as goal

-- the latencies of the queues of the class so far
abbrev pub invariant-loop-queue : goal.invariant-loop-queue
invariant-loop-queue l = times_of l.union ≡ latencies_in (Some l.class) (take l.queue-index l.queues)
