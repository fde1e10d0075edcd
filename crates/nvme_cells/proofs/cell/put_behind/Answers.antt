use Rattle.std.proofs.Common.{◌-◌, length, decimal, replicate}
use Rattle.nvme_cells.specs.Values.{digits_of}
use Rattle.nvme_output.proofs.Writing.{writes_then}
use Rattle.nvme_cells.proofs.cell.put_behind.Goals as goal

pub returns : goal.returns
returns g c =
    writes_then _ _ _ c.put_number.result (replicate (digits_of c.args.places - length (decimal c.args.part)) 48) (decimal c.args.part)
    (rw (c.saturating_sub.ensures, c.digits.ensures, c.digits-2.ensures) at c.in_ok-put_filled.ensures) c.put_number.ensures
