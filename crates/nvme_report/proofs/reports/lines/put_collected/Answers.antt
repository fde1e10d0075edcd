use Rattle.std.proofs.Common.{rules, subst, ℕ}
use Rattle.std.specs.Io.KnownBytes.{Appends}
use Rattle.nvme_report.specs.Report.{cq_line, cq_line_of}
use Rattle.nvme_output.specs.Written.{AppendsPrefix}
use Rattle.nvme_report.proofs.Loops.{numbered_fail, numbered_written}
use Rattle.nvme_report.proofs.reports.lines.put_collected.Goals as goal

pub returns-in_err-put_collection : goal.returns-in_err-put_collection
returns-in_err-put_collection g c =
    let r = c.loop-region.region in
    let old = g.W.Write.contents c.loop-region.writer in
    let new = g.W.Write.contents c.put_collection.new.writer in
    let cqes = c.index-collected-region.result in
    numbered_fail cq_line c.args.collected.now r cqes (g.W.Write.contents c.args.writer.now) old new c.from_residual.result
    c.from_residual.ensures.0 (search rules) c.index-collected-region.is c.loop-region.invariant
    (subst (λ (z : ℕ). AppendsPrefix old new (cq_line_of r z)) (search rules) c.in_err-put_collection.ensures)

pub loop-region-preserved : goal.loop-region-preserved
loop-region-preserved g c =
    let r = c.loop-region.region in
    let old = g.W.Write.contents c.loop-region.writer in
    let new = g.W.Write.contents c.put_collection.new.writer in
    let cqes = c.index-collected-region.result in
    numbered_written cq_line c.args.collected.now r cqes (g.W.Write.contents c.args.writer.now) old new
    (search rules) c.index-collected-region.is c.loop-region.invariant
    (subst (λ (z : ℕ). Appends old new (cq_line_of r z)) (search rules) c.in_ok-put_collection.ensures)
