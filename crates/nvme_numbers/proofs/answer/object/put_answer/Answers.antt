use Rattle.std.specs.Prelude.{codes}
use Rattle.nvme_output.proofs.Writing.{fails_first, writes_then}
use Rattle.nvme_numbers.specs.Objects.{answer_open_json}
use Rattle.nvme_numbers.proofs.answer.object.put_answer.Goals as goal

pub returns-in_err-put_open_object : goal.returns-in_err-put_open_object
returns-in_err-put_open_object g c =
    fails_first _ _ c.from_residual.result (answer_open_json c.args.answer.now) (codes "}\n") c.from_residual.ensures.0 c.in_err-put_open_object.ensures

pub returns : goal.returns
returns g c = writes_then _ _ _ c.put.result (answer_open_json c.args.answer.now) (codes "}\n") c.in_ok-put_open_object.ensures c.put.ensures
