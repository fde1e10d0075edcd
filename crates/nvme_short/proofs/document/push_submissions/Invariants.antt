use Rattle.std.proofs.Common.{◌≡◌, ◌++◌, drop, map}
use Rattle.toml.specs.View.{view}
use Rattle.nvme_short.specs.Documents.{submission_of}
use Rattle.nvme_short.proofs.document.push_submissions.Given as goal

abbrev pub invariant-loop-queue : goal.invariant-loop-queue
invariant-loop-queue l = map view l.values.items ++ map submission_of (drop l.queue-index l.queues) ≡ map view l.fn.values.items ++ map submission_of l.queues
