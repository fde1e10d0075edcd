-- The queues below this one have the pick, and the others don't yet.
use Rattle.std.proofs.Common.{◌≡◌, ◌==◌, ◌<◌, ◌≤◌, ℕ}
use Rattle.nvme_arbiter.specs.Limits.{queue_limit}
use Rattle.nvme_judge.specs.Turns.{turn_in, is_ready_in}
use Rattle.nvme_judge.specs.inside.Steps.{turn_with}
use Rattle.nvme_judge.proofs.turns.Queues.note.Given as goal

abbrev pub invariant-loop-qid : goal.invariant-loop-qid
invariant-loop-qid l = record {
  few : l.qid ≤ queue_limit;
  noted : (j : ℕ) → j < l.qid → turn_in l.self.turns j ≡ turn_with l.number (l.picked == j) (is_ready_in l.class j l.seen) (turn_in l.fn.self.turns j);
  left : (j : ℕ) → l.qid ≤ j → turn_in l.self.turns j ≡ turn_in l.fn.self.turns j;
}
