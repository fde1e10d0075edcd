use Rattle.std.proofs.Common.{take}
use Rattle.std.specs.Io.KnownBytes.{Appends}
use Rattle.std.specs.List.{flat_map}
use Rattle.nvme_numbers.specs.Tables.{section_text}
use Rattle.nvme_numbers.proofs.answer.table.put_sections.Given as goal

-- those so far were written
abbrev pub invariant-loop-section : goal.invariant-loop-section
invariant-loop-section g l =
    Appends (g.W.Write.contents l.fn.writer) (g.W.Write.contents l.writer) (flat_map (section_text l.answer) (take l.section-index l.sections))
