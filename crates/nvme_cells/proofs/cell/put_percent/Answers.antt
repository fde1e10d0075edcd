use Rattle.nvme_cells.specs.Values.{fraction_text}
use Rattle.nvme_output.proofs.Writing.{writes_then}
use Rattle.nvme_cells.proofs.cell.put_percent.Goals as goal

pub returns : goal.returns
returns g c = writes_then _ _ _ c.put.result (fraction_text c.args.units c.args.places) c.args.sign.now c.in_ok-put_fraction.ensures (rw c.as_bytes.ensures.value at c.put.ensures)
