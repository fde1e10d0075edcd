use Rattle.std.proofs.Common.{◌≡◌, ℕ, ◌+◌, length}
use Rattle.nvme_arbiter.specs.Settings.{ArbitrationFields}
use Rattle.nvme_arbiter.specs.declared.settings.Mechanism.{Mechanism}
use Rattle.nvme_uses.specs.Served.{HasServed}
use Rattle.nvme_uses.proofs.board.serve.Given as goal

abbrev pub invariant-loop : goal.invariant-loop
invariant-loop l = record {
  served : (mechanism : Mechanism) (first : ArbitrationFields) (came : ℕ → ℕ) → HasServed mechanism first came l.fn.picks.items l.fn.board → HasServed mechanism first came l.picks.items l.board;
  number : length l.picks.items ≡ length l.fn.picks.items + l.counter;
}
