use Rattle.std.proofs.Common.{take}
use Rattle.std.specs.Io.KnownBytes.{Appends}
use Rattle.nvme_log.specs.Rules.{Past}
use Rattle.nvme_report.specs.Report.{numbered, sq_line}
use Rattle.nvme_report.specs.inside.Tallies.{AreCounted}
use Rattle.nvme_report.proofs.reports.counts.put_submissions.Given as goal

-- the lines of the regions so far were written
abbrev pub invariant-loop-region : goal.invariant-loop-region
invariant-loop-region g l =
    (past : Past) → AreCounted past l.counts → Appends (g.W.Write.contents l.fn.writer) (g.W.Write.contents l.writer) (numbered (sq_line past) 0 (take l.region l.sent))
