use Rattle.std.proofs.Common.{rules}
use Rattle.nvme_output.proofs.Items.{items_fail}
use Rattle.nvme_numbers.specs.Tables.{class_line}
use Rattle.nvme_numbers.proofs.answer.table.put_classes.Goals as goal

pub returns-in_err-put_class : goal.returns-in_err-put_class
returns-in_err-put_class g c =
    items_fail (class_line c.args.columns) c.args.classes.now c.loop-class.class-index _ _ _ _
    c.from_residual.result c.from_residual.ensures.0 (search rules) c.loop-class.invariant c.in_err-put_class.ensures
