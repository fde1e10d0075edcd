use Rattle.std.proofs.Common.{ℕ}
use Rattle.std.specs.Io.KnownBytes.{Appends}
use Rattle.std.specs.List.{flat_map}
use Rattle.nvme_log.specs.Rules.{upto}
use Rattle.nvme_report.specs.Report.{cmd_line, completions_of}
use Rattle.nvme_report.proofs.reports.completions.put_places.Given as goal

-- the lines of the places so far were written
abbrev pub invariant-loop-index : goal.invariant-loop-index
invariant-loop-index g l =
    Appends (g.W.Write.contents l.fn.writer) (g.W.Write.contents l.writer)
    (flat_map (λ (i : ℕ). flat_map (cmd_line l.region i) (completions_of l.log l.region i)) (upto l.index))
