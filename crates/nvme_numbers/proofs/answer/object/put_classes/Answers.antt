use Rattle.std.specs.Prelude.{codes}
use Rattle.nvme_output.proofs.Writing.{fails_first, writes_then}
use Rattle.nvme_numbers.specs.Objects.{class_object, listed}
use Rattle.nvme_numbers.proofs.answer.object.put_classes.Goals as goal

pub returns-in_err-put : goal.returns-in_err-put
returns-in_err-put g c = fails_first _ _ c.from_residual.result (codes "],\"classes\":[") (listed (λ place m. class_object m) c.args.classes.now) c.from_residual.ensures.0 c.in_err-put.ensures

pub returns : goal.returns
returns g c = writes_then _ _ _ c.list_classes.result (codes "],\"classes\":[") (listed (λ place m. class_object m) c.args.classes.now) c.in_ok-put.ensures c.list_classes.ensures
