use Rattle.std.proofs.Common.{rules}
use Rattle.std.specs.List.{flat_map}
use Rattle.nvme_output.proofs.Items.{items_fail}
use Rattle.nvme_cells.specs.inside.Forms.{form_behind}
use Rattle.nvme_cells.proofs.field.put_parts.Goals as goal

pub returns-in_err-put_part : goal.returns-in_err-put_part
returns-in_err-put_part g c =
    items_fail (λ part. flat_map (form_behind c.args.form) part.now) c.args.parts.now c.loop-part.part-index _ _ _ _ c.from_residual.result c.from_residual.ensures.0
    (search rules) c.loop-part.invariant c.in_err-put_part.ensures
