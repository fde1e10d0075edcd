use Rattle.std.proofs.Common.{rules}
use Rattle.nvme_output.proofs.Items.{items_fail}
use Rattle.nvme_cells.specs.inside.Forms.{form_behind}
use Rattle.nvme_cells.proofs.field.put_part.Goals as goal

pub returns-in_err-put_next : goal.returns-in_err-put_next
returns-in_err-put_next g c =
    items_fail (form_behind c.args.form) c.args.part.now c.loop-field.field-index _ _ _ _ c.from_residual.result c.from_residual.ensures.0
    (search rules) c.loop-field.invariant c.in_err-put_next.ensures
