use Rattle.std.proofs.Common.{replicate}
use Rattle.std.specs.Io.KnownBytes.{Appends}
use Rattle.nvme_cells.proofs.cell.put_filled.Given as goal

-- so many were written
abbrev pub invariant-loop : goal.invariant-loop
invariant-loop g l = Appends (g.W.Write.contents l.fn.writer) (g.W.Write.contents l.writer) (replicate l.counter l.byte)
