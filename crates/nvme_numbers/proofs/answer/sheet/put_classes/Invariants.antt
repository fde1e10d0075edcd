use Rattle.std.proofs.Common.{take}
use Rattle.std.specs.Io.KnownBytes.{Appends}
use Rattle.std.specs.List.{flat_map}
use Rattle.nvme_cells.specs.Rows.{csv_values}
use Rattle.nvme_numbers.specs.Sheets.{line_of_class}
use Rattle.nvme_numbers.proofs.answer.sheet.put_classes.Given as goal

-- those so far were written
abbrev pub invariant-loop-class : goal.invariant-loop-class
invariant-loop-class g l =
    Appends (g.W.Write.contents l.fn.writer) (g.W.Write.contents l.writer) (flat_map (λ m. csv_values (line_of_class l.answer m)) (take l.class-index l.classes))
