use Rattle.std.proofs.Common.{◌≡◌}
use Rattle.std.specs.Io.KnownBytes.{Keeps}
use Rattle.nvme_lines.specs.Lines.{unread}
use Rattle.nvme_lines.proofs.lines.Lines.fill.Given as goal

-- no byte was taken, and none is there
abbrev pub invariant-loop : goal.invariant-loop
invariant-loop g l = record {
  kept : Keeps (unread g.R.Read.remaining l.fn.self) (unread g.R.Read.remaining l.self);
  none : l.self.start ≡ l.self.end;
}
