use Rattle.std.proofs.Common.{rules, subst}
use Rattle.nvme_output.specs.Written.{AppendsPrefix}
use Rattle.nvme_output.proofs.Items.{items_fail}
use Rattle.nvme_tracer.specs.Text.{text_of_event}
use Rattle.nvme_tracer.proofs.writer.put_events.Goals as goal

pub returns-in_err-put_event : goal.returns-in_err-put_event
returns-in_err-put_event g c =
    let old = g.W.Write.contents c.loop-event.writer in
    let new = g.W.Write.contents c.put_event.new.writer in
    items_fail text_of_event c.args.log.now c.loop-event.event-index c.event-item.result (g.W.Write.contents c.args.writer.now) old new c.from_residual.result
    c.from_residual.ensures.0 (search rules) c.loop-event.invariant
    (subst (λ e. AppendsPrefix old new (text_of_event e)) c.event-item.is c.in_err-put_event.ensures)
