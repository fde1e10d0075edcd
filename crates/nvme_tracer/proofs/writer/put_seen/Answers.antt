use Rattle.std.specs.List.{flat_map}
use Rattle.nvme_output.proofs.Writing.{fails_first, writes_then}
use Rattle.nvme_tracer.specs.Text.{text_of_next, text_of_queue}
use Rattle.nvme_tracer.proofs.writer.put_seen.Goals as goal

pub returns-in_err-put_queue : goal.returns-in_err-put_queue
returns-in_err-put_queue g c =
    rw c.in-Some.ensures.cases.0 (fails_first _ _ c.from_residual.result (text_of_queue c.in-Some.first.now) (flat_map text_of_next c.in-Some.more.now) c.from_residual.ensures.0 c.in_err-put_queue.ensures)

pub returns : goal.returns
returns g c =
    rw c.in-Some.ensures.cases.0 (writes_then _ _ _ c.put_more.result (text_of_queue c.in-Some.first.now) (flat_map text_of_next c.in-Some.more.now) c.in_ok-put_queue.ensures c.put_more.ensures)
