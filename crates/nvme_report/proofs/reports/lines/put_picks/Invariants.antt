use Rattle.std.proofs.Common.{take}
use Rattle.std.specs.Io.KnownBytes.{Appends}
use Rattle.std.specs.List.{flat_map}
use Rattle.nvme_report.specs.Report.{pick_line}
use Rattle.nvme_report.proofs.reports.lines.put_picks.Given as goal

-- the lines of the events so far were written
abbrev pub invariant-loop-event : goal.invariant-loop-event
invariant-loop-event g l =
    Appends (g.W.Write.contents l.fn.writer) (g.W.Write.contents l.writer) (flat_map pick_line (take l.event-index l.log))
