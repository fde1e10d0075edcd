use Rattle.std.specs.Io.KnownBytes.{Appends}
use Rattle.std.specs.List.{flat_map}
use Rattle.nvme_log.specs.Rules.{upto}
use Rattle.nvme_report.specs.Report.{cmd_lines}
use Rattle.nvme_report.proofs.reports.completions.put_completions.Given as goal

-- the lines of the regions so far were written
abbrev pub invariant-loop-region : goal.invariant-loop-region
invariant-loop-region g l =
    Appends (g.W.Write.contents l.fn.writer) (g.W.Write.contents l.writer) (flat_map (cmd_lines l.log) (upto l.region))
