use Rattle.std.proofs.Common.{take}
use Rattle.std.specs.Io.KnownBytes.{Appends}
use Rattle.nvme_numbers.specs.Sheets.{placed}
use Rattle.nvme_numbers.specs.Tables.{queue_line}
use Rattle.nvme_numbers.proofs.answer.table.put_queues.Given as goal

-- those so far were written
abbrev pub invariant-loop-place : goal.invariant-loop-place
invariant-loop-place g l =
    Appends (g.W.Write.contents l.fn.writer) (g.W.Write.contents l.writer) (placed (queue_line l.columns) 0 (take l.place l.queues))
