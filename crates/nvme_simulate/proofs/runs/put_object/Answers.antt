use Rattle.nvme_numbers.specs.Objects.{answer_open_json}
use Rattle.nvme_output.proofs.Writing.{fails_first, writes_then}
use Rattle.nvme_waits.specs.Texts.{bounds_json}
use Rattle.nvme_simulate.proofs.runs.put_object.Goals as goal

pub returns-in_err-write_open_json : goal.returns-in_err-write_open_json
returns-in_err-write_open_json g c =
    fails_first _ _ c.from_residual.result (answer_open_json c.args.answer.now) (bounds_json c.args.bounds.now) c.from_residual.ensures.0 c.in_err-write_open_json.ensures

pub returns : goal.returns
returns g c = writes_then _ _ _ c.write_json.result (answer_open_json c.args.answer.now) (bounds_json c.args.bounds.now) c.in_ok-write_open_json.ensures c.write_json.ensures
