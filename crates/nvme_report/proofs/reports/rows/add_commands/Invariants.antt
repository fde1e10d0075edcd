use Rattle.std.proofs.Common.{◌≡◌, ◌++◌, ℕ, map}
use Rattle.std.specs.List.{flat_map}
use Rattle.nvme_log.specs.Rules.{upto}
use Rattle.nvme_report.specs.Report.{completions_of}
use Rattle.nvme_report.specs.Rows.{command_row}
use Rattle.nvme_report.proofs.reports.rows.add_commands.Given as goal

-- the rows of the places so far were added
abbrev pub invariant-loop-index : goal.invariant-loop-index
invariant-loop-index l =
    l.rows.items ≡ l.fn.rows.items ++ flat_map (λ (i : ℕ). map (command_row l.region i) (completions_of l.log l.region i)) (upto l.index)
