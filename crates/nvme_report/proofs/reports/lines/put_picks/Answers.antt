use Rattle.std.proofs.Common.{rules, subst}
use Rattle.nvme_report.specs.Report.{pick_line}
use Rattle.nvme_output.specs.Written.{AppendsPrefix}
use Rattle.nvme_output.proofs.Items.{items_fail}
use Rattle.nvme_report.proofs.reports.lines.put_picks.Goals as goal

pub returns-in_err-put_pick : goal.returns-in_err-put_pick
returns-in_err-put_pick g c =
    let old = g.W.Write.contents c.loop-event.writer in
    let new = g.W.Write.contents c.put_pick.new.writer in
    items_fail pick_line c.args.log.now c.loop-event.event-index c.event-item.result (g.W.Write.contents c.args.writer.now) old new c.from_residual.result
    c.from_residual.ensures.0 (search rules) c.loop-event.invariant
    (subst (λ e. AppendsPrefix old new (pick_line e)) c.event-item.is c.in_err-put_pick.ensures)
