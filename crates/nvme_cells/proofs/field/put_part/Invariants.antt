use Rattle.std.proofs.Common.{take}
use Rattle.std.specs.Io.KnownBytes.{Appends}
use Rattle.std.specs.List.{flat_map}
use Rattle.nvme_cells.specs.inside.Forms.{form_behind}
use Rattle.nvme_cells.proofs.field.put_part.Given as goal

-- those so far were written
abbrev pub invariant-loop-field : goal.invariant-loop-field
invariant-loop-field g l =
    Appends (g.W.Write.contents l.fn.writer) (g.W.Write.contents l.writer) (flat_map (form_behind l.fn.form) (take l.field-index l.part))
