use Rattle.std.proofs.Common.{◌≡◌, ◌++◌, drop}
use Rattle.nvme_short.specs.Documents.{flat}
use Rattle.nvme_short.specs.Names.{first_places_of}
use Rattle.nvme_short.proofs.names.push_first.Given as goal

abbrev pub invariant-loop-queue : goal.invariant-loop-queue
invariant-loop-queue l = l.places.items ++ flat (first_places_of l.steps) (drop l.queue-index l.queues) ≡ l.fn.places.items ++ flat (first_places_of l.steps) l.queues
