use Rattle.std.proofs.Common.{◌≡◌, ◌++◌, drop}
use Rattle.nvme_short.specs.Documents.{flat}
use Rattle.nvme_short.specs.Names.{own_cq}
use Rattle.nvme_short.proofs.names.push_own_cqs.Given as goal

abbrev pub invariant-loop-queue : goal.invariant-loop-queue
invariant-loop-queue l = l.numbers.items ++ flat own_cq (drop l.queue-index l.queues) ≡ l.fn.numbers.items ++ flat own_cq l.queues
