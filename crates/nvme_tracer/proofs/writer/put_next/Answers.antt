use Rattle.std.proofs.Common.{◌∷◌, []}
use Rattle.nvme_output.proofs.Writing.{fails_first, writes_then}
use Rattle.nvme_tracer.specs.Text.{text_of_queue}
use Rattle.nvme_tracer.proofs.writer.put_next.Goals as goal

pub returns-in_err-put : goal.returns-in_err-put
returns-in_err-put g c = fails_first _ _ c.from_residual.result (44 ∷ []) (text_of_queue c.args.queue.now) c.from_residual.ensures.0 c.in_err-put.ensures

pub returns : goal.returns
returns g c = writes_then _ _ _ c.put_queue.result (44 ∷ []) (text_of_queue c.args.queue.now) c.in_ok-put.ensures c.put_queue.ensures
