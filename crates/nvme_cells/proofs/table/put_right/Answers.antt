use Rattle.std.proofs.Common.{◌-◌, length, replicate}
use Rattle.nvme_cells.specs.Tables.{table_text}
use Rattle.nvme_cells.specs.Values.{value_of}
use Rattle.nvme_output.proofs.Writing.{writes_then}
use Rattle.nvme_cells.proofs.table.put_right.Goals as goal

pub returns : goal.returns
returns g c =
    writes_then _ _ _ c.put_cell.result (replicate (c.args.width - length (table_text (value_of c.args.cell.now))) 32) (table_text (value_of c.args.cell.now))
    (rw c.room_beside.ensures at c.in_ok-put_filled.ensures) c.put_cell.ensures
