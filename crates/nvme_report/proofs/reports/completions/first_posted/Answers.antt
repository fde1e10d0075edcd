use Rattle.std.proofs.Common.{rules, sym, ◌∙◌, ap}
use Rattle.nvme_report.specs.Report.{completion_in}
use Rattle.nvme_report.proofs.Completions.{completion_is, first_at}
use Rattle.nvme_report.proofs.reports.completions.first_posted.Goals as goal

pub returns-then-number-index-clause-cqe : goal.returns-then-number-index-clause-cqe
returns-then-number-index-clause-cqe c =
    let r = c.args.region in
    let i = c.args.index in
    let here = ap (λ e. completion_in r i e) (sym c.index-events-at.is ∙ c.in-Post.is)
    ∙ completion_is r i c.in-Post.cq_region c.in-Post.of c.in-Post.number c.in-Post.cqe (sym c.from.ensures ∙ c.if-from-region.true) c.if-number-index.true in
    first_at c.args.events.now r i c.loop-at.at c.index-events-at.result c.in-Post.cqe (search rules) c.loop-at.invariant here
