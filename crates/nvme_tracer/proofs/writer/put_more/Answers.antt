use Rattle.std.proofs.Common.{rules}
use Rattle.nvme_output.proofs.Items.{items_fail}
use Rattle.nvme_tracer.specs.Text.{text_of_next}
use Rattle.nvme_tracer.proofs.writer.put_more.Goals as goal

pub returns-in_err-put_next : goal.returns-in_err-put_next
returns-in_err-put_next g c =
    items_fail text_of_next c.args.queues.now c.loop-queue.queue-index _ _ _ _ c.from_residual.result c.from_residual.ensures.0
    (search rules) c.loop-queue.invariant c.in_err-put_next.ensures
