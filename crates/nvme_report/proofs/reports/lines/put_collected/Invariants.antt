use Rattle.std.proofs.Common.{take}
use Rattle.std.specs.Io.KnownBytes.{Appends}
use Rattle.nvme_report.specs.Report.{cq_line, numbered}
use Rattle.nvme_report.proofs.reports.lines.put_collected.Given as goal

-- the lines of the regions so far were written
abbrev pub invariant-loop-region : goal.invariant-loop-region
invariant-loop-region g l =
    Appends (g.W.Write.contents l.fn.writer) (g.W.Write.contents l.writer) (numbered cq_line 0 (take l.region l.collected))
