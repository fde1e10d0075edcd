use Rattle.std.proofs.Common.{rules}
use Rattle.nvme_output.proofs.Items.{items_fail}
use Rattle.nvme_cells.specs.Tables.{placed_row}
use Rattle.nvme_cells.proofs.table.put_rows.Goals as goal

pub returns-in_err-put_row : goal.returns-in_err-put_row
returns-in_err-put_row g c =
    items_fail (λ row. placed_row row.now) c.args.rows.now c.loop-row.row-index _ _ _ _
    c.from_residual.result c.from_residual.ensures.0 (search rules) c.loop-row.invariant c.in_err-put_row.ensures
