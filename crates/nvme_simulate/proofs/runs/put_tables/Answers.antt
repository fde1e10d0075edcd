use Rattle.nvme_numbers.specs.Tables.{answer_text}
use Rattle.nvme_output.proofs.Writing.{fails_first, writes_then}
use Rattle.nvme_waits.specs.Texts.{bounds_text}
use Rattle.nvme_simulate.proofs.runs.put_tables.Goals as goal

pub returns-in_err-write_text : goal.returns-in_err-write_text
returns-in_err-write_text g c =
    fails_first _ _ c.from_residual.result (answer_text c.args.answer.now) (bounds_text c.args.bounds.now) c.from_residual.ensures.0 c.in_err-write_text.ensures

pub returns : goal.returns
returns g c = writes_then _ _ _ c.write_text-2.result (answer_text c.args.answer.now) (bounds_text c.args.bounds.now) c.in_ok-write_text.ensures c.write_text-2.ensures
