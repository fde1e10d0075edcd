use Rattle.nvme_report.proofs.Completions.{posted_after, posted_before}
use Rattle.nvme_report.proofs.reports.completions.completion_of.Goals as goal

pub returns-in-Some : goal.returns-in-Some
returns-in-Some c =
    posted_after c.args.log.now c.args.region c.args.index c.args.from c.in-Some.found.cqe c.requires.once c.in-Some.ensures.cqe

pub returns : goal.returns
returns c =
    posted_before (λ found. found.cqe) c.first_posted-2.result c.args.log.now c.args.region c.args.index c.args.from c.requires.once
    c.in_default.ensures.cqe c.first_posted-2.ensures.cqe
