use Rattle.std.proofs.Common.{◌≡◌, [], take}
use Rattle.nvme_report.specs.Report.{completions_of}
use Rattle.nvme_report.proofs.reports.completions.first_posted.Given as goal

abbrev pub invariant-loop-at : goal.invariant-loop-at
invariant-loop-at l = completions_of (take l.at l.events) l.region l.index ≡ []
