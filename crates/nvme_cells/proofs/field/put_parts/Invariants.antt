use Rattle.std.proofs.Common.{take}
use Rattle.std.specs.Io.KnownBytes.{Appends}
use Rattle.std.specs.List.{flat_map}
use Rattle.nvme_cells.specs.inside.Forms.{form_behind}
use Rattle.nvme_cells.proofs.field.put_parts.Given as goal

-- those so far were written
abbrev pub invariant-loop-part : goal.invariant-loop-part
invariant-loop-part g l =
    Appends (g.W.Write.contents l.fn.writer) (g.W.Write.contents l.writer) (flat_map (λ part. flat_map (form_behind l.fn.form) part.now) (take l.part-index l.parts))
