use Rattle.std.proofs.Common.{rules, arith}
use Rattle.std.proofs.lemmas.Grind.{common_steps}
use Rattle.nvme_output.proofs.Items.{items_fail}
use Rattle.nvme_cells.specs.Tables.{shown_of, shown_text}
use Rattle.nvme_cells.proofs.Turns.{flat_map-map}
use Rattle.nvme_cells.proofs.table.put_row.Goals as goal

pub returns-in_err-put_placed : goal.returns-in_err-put_placed
returns-in_err-put_placed g c =
    rw (flat_map-map shown_text shown_of c.args.row.now) (items_fail (λ placed. shown_text (shown_of placed)) c.args.row.now c.loop-placed.placed-index _ _ _ _
    c.from_residual.result c.from_residual.ensures.0 (search rules) c.loop-placed.invariant c.in_err-put_placed.ensures)

pub returns : goal.returns
returns g c = rw (flat_map-map shown_text shown_of c.args.row.now) (grind (arith, common_steps))
