use Rattle.std.proofs.Common.{◌≡◌, take}
use Rattle.nvme_waits.specs.Longest.{longest_of}
use Rattle.nvme_waits.proofs.bounds.longest_of_all.Given as goal

-- the longest service of the queues so far
abbrev pub invariant-loop-queue : goal.invariant-loop-queue
invariant-loop-queue l = l.longest ≡ longest_of (take l.queue-index l.queues)
