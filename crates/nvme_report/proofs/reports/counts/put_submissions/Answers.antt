use Rattle.std.proofs.Common.{rules, subst, List, ℕ}
use Rattle.std.specs.Io.KnownBytes.{Appends}
use Rattle.nvme_report.specs.Report.{sq_line}
use Rattle.nvme_output.specs.Written.{AppendsPrefix}
use Rattle.nvme_report.proofs.Counted.{sq_line_is}
use Rattle.nvme_report.proofs.Loops.{numbered_fail, numbered_written}
use Rattle.nvme_report.proofs.reports.counts.put_submissions.Goals as goal

pub returns-in_err-put_submission : goal.returns-in_err-put_submission
returns-in_err-put_submission g c past counted =
    let r = c.loop-region.region in
    let old = g.W.Write.contents c.loop-region.writer in
    let new = g.W.Write.contents c.put_submission.new.writer in
    let sent = c.index-sent-region.result in
    numbered_fail (sq_line past) c.args.sent.now r sent (g.W.Write.contents c.args.writer.now) old new c.from_residual.result
    c.from_residual.ensures.0 (search rules) c.index-sent-region.is (c.loop-region.invariant past counted)
    (subst (λ (z : List ℕ). AppendsPrefix old new z) (sq_line_is past r sent c.counts_at.result (c.counts_at.ensures past counted)) c.in_err-put_submission.ensures)

pub loop-region-preserved : goal.loop-region-preserved
loop-region-preserved g c past counted =
    let r = c.loop-region.region in
    let old = g.W.Write.contents c.loop-region.writer in
    let new = g.W.Write.contents c.put_submission.new.writer in
    let sent = c.index-sent-region.result in
    numbered_written (sq_line past) c.args.sent.now r sent (g.W.Write.contents c.args.writer.now) old new
    (search rules) c.index-sent-region.is (c.loop-region.invariant past counted)
    (subst (λ (z : List ℕ). Appends old new z) (sq_line_is past r sent c.counts_at.result (c.counts_at.ensures past counted)) c.in_ok-put_submission.ensures)
