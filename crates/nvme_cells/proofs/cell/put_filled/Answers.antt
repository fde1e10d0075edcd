use Rattle.std.proofs.Common.{rules}
use Rattle.nvme_cells.proofs.Turns.{filled_fails}
use Rattle.nvme_cells.proofs.cell.put_filled.Goals as goal

pub returns-in_err-put : goal.returns-in_err-put
returns-in_err-put g c =
    filled_fails c.args.count c.loop.counter c.args.byte _ _ _ c.from_residual.result c.from_residual.ensures.0 (search rules) c.loop.invariant c.in_err-put.ensures
