use Rattle.std.proofs.Common.{rules}
use Rattle.nvme_report.specs.Report.{cmd_lines}
use Rattle.nvme_report.proofs.Loops.{upto_fail}
use Rattle.nvme_report.proofs.reports.completions.put_completions.Goals as goal

pub returns-in_err-put_places : goal.returns-in_err-put_places
returns-in_err-put_places g c =
    upto_fail (cmd_lines c.args.log.now) c.args.regions c.loop-region.region (g.W.Write.contents c.args.writer.now)
    (g.W.Write.contents c.loop-region.writer) (g.W.Write.contents c.put_places.new.writer) c.from_residual.result c.from_residual.ensures.0
    (search rules) c.loop-region.invariant c.in_err-put_places.ensures
