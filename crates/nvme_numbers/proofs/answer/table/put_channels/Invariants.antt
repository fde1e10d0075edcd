use Rattle.std.proofs.Common.{take}
use Rattle.std.specs.Io.KnownBytes.{Appends}
use Rattle.nvme_numbers.specs.Sheets.{placed}
use Rattle.nvme_numbers.specs.Tables.{channel_text}
use Rattle.nvme_numbers.proofs.answer.table.put_channels.Given as goal

-- those so far were written
abbrev pub invariant-loop-number : goal.invariant-loop-number
invariant-loop-number g l =
    Appends (g.W.Write.contents l.fn.writer) (g.W.Write.contents l.writer) (placed (channel_text l.answer) 0 (take l.number l.channels))
