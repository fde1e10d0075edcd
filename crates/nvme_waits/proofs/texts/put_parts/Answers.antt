use Rattle.std.proofs.Common.{rules}
use Rattle.nvme_output.proofs.Items.{items_fail}
use Rattle.nvme_waits.specs.Texts.{part_text}
use Rattle.nvme_waits.proofs.texts.put_parts.Goals as goal

pub returns-in_err-put_part : goal.returns-in_err-put_part
returns-in_err-put_part g c =
    items_fail (part_text c.args.bounds.now) c.args.parts.now c.loop-part.part-index _ _ _ _
    c.from_residual.result c.from_residual.ensures.0 (search rules) c.loop-part.invariant c.in_err-put_part.ensures
