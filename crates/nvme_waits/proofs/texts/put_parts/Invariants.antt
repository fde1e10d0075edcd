use Rattle.std.proofs.Common.{take}
use Rattle.std.specs.Io.KnownBytes.{Appends}
use Rattle.std.specs.List.{flat_map}
use Rattle.nvme_waits.specs.Texts.{part_text}
use Rattle.nvme_waits.proofs.texts.put_parts.Given as goal

-- those so far were written
abbrev pub invariant-loop-part : goal.invariant-loop-part
invariant-loop-part g l =
    Appends (g.W.Write.contents l.fn.writer) (g.W.Write.contents l.writer) (flat_map (part_text l.bounds) (take l.part-index l.parts))
