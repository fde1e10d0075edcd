use Rattle.std.proofs.Common.{◌≡◌, ◌++◌, drop}
use Rattle.nvme_short.specs.Documents.{flat, creates_at}
use Rattle.nvme_short.proofs.creates.push_creates_at.Given as goal

abbrev pub invariant-loop-queue : goal.invariant-loop-queue
invariant-loop-queue l = l.items.items ++ flat (creates_at l.number) (drop l.queue-index l.queues) ≡ l.fn.items.items ++ flat (creates_at l.number) l.queues
