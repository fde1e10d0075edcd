use Rattle.std.proofs.Common.{take}
use Rattle.std.specs.Io.KnownBytes.{Appends}
use Rattle.std.specs.List.{flat_map}
use Rattle.nvme_numbers.specs.Tables.{class_line}
use Rattle.nvme_numbers.proofs.answer.table.put_classes.Given as goal

-- those so far were written
abbrev pub invariant-loop-class : goal.invariant-loop-class
invariant-loop-class g l =
    Appends (g.W.Write.contents l.fn.writer) (g.W.Write.contents l.writer) (flat_map (class_line l.columns) (take l.class-index l.classes))
