use Rattle.std.proofs.Common.{◌≡◌, drop}
use Rattle.nvme_judge.specs.inside.Steps.{some_has_waited}
use Rattle.nvme_judge.proofs.turns.Queues.some_has_waited.Given as goal

abbrev pub invariant-loop-queue : goal.invariant-loop-queue
invariant-loop-queue l = some_has_waited l.class l.self.turns l.picked (drop l.queue-index l.seen) ≡ some_has_waited l.class l.self.turns l.picked l.seen
