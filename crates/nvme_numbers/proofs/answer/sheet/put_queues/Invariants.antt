use Rattle.std.proofs.Common.{take}
use Rattle.std.specs.Io.KnownBytes.{Appends}
use Rattle.nvme_cells.specs.Rows.{csv_values}
use Rattle.nvme_numbers.specs.Sheets.{line_of_queue, placed}
use Rattle.nvme_numbers.proofs.answer.sheet.put_queues.Given as goal

-- those so far were written
abbrev pub invariant-loop-place : goal.invariant-loop-place
invariant-loop-place g l =
    Appends (g.W.Write.contents l.fn.writer) (g.W.Write.contents l.writer) (placed (λ place m. csv_values (line_of_queue l.answer place m)) 0 (take l.place l.queues))
