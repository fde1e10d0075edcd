use Rattle.nvme_cells.specs.Tables.{row_text}
use Rattle.nvme_numbers.specs.Sheets.{placed}
use Rattle.nvme_output.proofs.Writing.{fails_first, writes_then}
use Rattle.nvme_waits.specs.Texts.{head_row, queue_line}
use Rattle.nvme_waits.proofs.texts.put_table.Goals as goal

pub returns-in_err-put_row : goal.returns-in_err-put_row
returns-in_err-put_row g c =
    let b = c.args.bounds.now in
    fails_first _ _ c.from_residual.result (row_text (head_row b.service)) (placed (queue_line b) 0 b.queues.items) c.from_residual.ensures.0
    (rw c.head.ensures at c.in_err-put_row.ensures)

pub returns : goal.returns
returns g c =
    let b = c.args.bounds.now in
    writes_then _ _ _ c.put_lines.result (row_text (head_row b.service)) (placed (queue_line b) 0 b.queues.items)
    (rw c.head.ensures at c.in_ok-put_row.ensures) (rw c.deref.ensures.value at c.put_lines.ensures)
