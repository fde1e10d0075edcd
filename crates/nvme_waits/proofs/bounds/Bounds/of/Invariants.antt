use Rattle.std.proofs.Common.{◌≡◌, map, take}
use Rattle.nvme_waits.specs.Bounds.{bound_of}
use Rattle.nvme_waits.proofs.bounds.Bounds.of.Given as goal

-- the bounds of the queues so far
abbrev pub invariant-loop-queue : goal.invariant-loop-queue
invariant-loop-queue l = l.queues.items ≡ map (bound_of l.model) (take l.queue-index l.queue-items)
