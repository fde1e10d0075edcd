use Rattle.std.proofs.Common.{take}
use Rattle.std.specs.Io.KnownBytes.{Appends}
use Rattle.std.specs.List.{flat_map}
use Rattle.nvme_cells.specs.Tables.{shown_of, shown_text}
use Rattle.nvme_cells.proofs.table.put_row.Given as goal

-- those so far were written
abbrev pub invariant-loop-placed : goal.invariant-loop-placed
invariant-loop-placed g l =
    Appends (g.W.Write.contents l.fn.writer) (g.W.Write.contents l.writer) (flat_map (λ placed. shown_text (shown_of placed)) (take l.placed-index l.row))
