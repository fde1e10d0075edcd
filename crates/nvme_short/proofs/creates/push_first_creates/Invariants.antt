use Rattle.std.proofs.Common.{◌≡◌, ◌++◌, drop}
use Rattle.nvme_short.specs.Documents.{flat, first_creates_of}
use Rattle.nvme_short.proofs.creates.push_first_creates.Given as goal

abbrev pub invariant-loop-queue : goal.invariant-loop-queue
invariant-loop-queue l = l.items.items ++ flat (first_creates_of l.steps) (drop l.queue-index l.queues) ≡ l.fn.items.items ++ flat (first_creates_of l.steps) l.queues
