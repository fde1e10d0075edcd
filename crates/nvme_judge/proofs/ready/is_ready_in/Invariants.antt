use Rattle.std.proofs.Common.{◌≡◌, drop}
use Rattle.nvme_judge.specs.Turns.{is_ready_in}
use Rattle.nvme_judge.proofs.ready.is_ready_in.Given as goal

abbrev pub invariant-loop-queue : goal.invariant-loop-queue
invariant-loop-queue l = is_ready_in l.class l.qid (drop l.queue-index l.seen) ≡ is_ready_in l.class l.qid l.seen
