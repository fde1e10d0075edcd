use Rattle.std.proofs.Common.{◌≡◌, ℕ, ◌+◌, ◌==◌, ◌≤◌, if◌then◌else◌}
use Rattle.std.specs.Prelude.{IsSomeAnd}
use Rattle.nvme_arbiter.specs.Settings.{ArbitrationFields}
use Rattle.nvme_arbiter.specs.History.{History}
use Rattle.nvme_arbiter.specs.Limits.{highest_count}
use Rattle.nvme_arbiter.specs.Queues.{queue_at}
use Rattle.nvme_arbiter.specs.Board.{BoardStandsAt}
use Rattle.nvme_arbiter.specs.declared.settings.Mechanism.{Mechanism}
use Rattle.nvme_uses.specs.Served.{waits}
use Rattle.nvme_uses.proofs.board.doorbell.Given as goal

abbrev pub invariant-loop : goal.invariant-loop
invariant-loop l = record {
  fits : IsSomeAnd (queue_at l.board.queues l.qid) (λ queue. queue.count + l.new ≤ highest_count + l.counter);
  came : (q : ℕ) → waits l.board q ≡ waits l.fn.board q + (if q == l.qid then l.counter else 0);
  stands : (mechanism : Mechanism) (first : ArbitrationFields) (past : History) → BoardStandsAt mechanism first past l.fn.board → BoardStandsAt mechanism first past l.board;
}
