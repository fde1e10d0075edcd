use Rattle.std.proofs.Common.{◌≡◌, length}
use Rattle.nvme_lines.specs.Lines.{unread}
use Rattle.nvme_lines.proofs.LineLemmas.{Joins}
use Rattle.nvme_lines.proofs.lines.Lines.next_line.Given as goal

-- the bytes so far come before those that are left
abbrev pub invariant-loop : goal.invariant-loop
invariant-loop g l = record {
  joins : Joins l.line.items (unread g.R.Read.remaining l.fn.self) (unread g.R.Read.remaining l.self);
  count : length l.line.items ≡ l.counter;
}
