use Rattle.std.specs.Prelude.{codes}
use Rattle.nvme_output.proofs.Writing.{fails_first, writes_then}
use Rattle.nvme_numbers.specs.Objects.{listed, queue_object}
use Rattle.nvme_numbers.proofs.answer.object.put_queues.Goals as goal

pub returns-in_err-put : goal.returns-in_err-put
returns-in_err-put g c = fails_first _ _ c.from_residual.result (codes ",\"queues\":[") (listed queue_object c.args.queues.now) c.from_residual.ensures.0 c.in_err-put.ensures

pub returns : goal.returns
returns g c = writes_then _ _ _ c.list_queues.result (codes ",\"queues\":[") (listed queue_object c.args.queues.now) c.in_ok-put.ensures c.list_queues.ensures
