-- The line of a submission region.
use Rattle.std.proofs.Common.{◌≡◌, ℕ, refl}
use Rattle.nvme_front.specs.declared.settled.Sent.{Sent}
use Rattle.nvme_log.specs.Rules.{Past}
use Rattle.nvme_report.specs.declared.reports.counts.Counts.{Counts}
use Rattle.nvme_report.specs.Report.{sq_line}
use Rattle.nvme_report.specs.inside.Tallies.{IsCounted, sq_line_of}

-- the line with what was counted is that of the region
pub sq_line_is : (past : Past) (r : ℕ) (sent : Sent) (counts : Counts) → IsCounted past r counts → sq_line_of r sent counts ≡ sq_line past r sent
sq_line_is past r sent counts h = rw (h.fetched, h.picked, h.aborted) refl
