use Rattle.std.proofs.Common.{◌≡◌}
use Rattle.std.specs.List.{flat_map}
use Rattle.nvme_log.specs.Rules.{upto}
use Rattle.nvme_report.specs.Rows.{command_rows}
use Rattle.nvme_report.proofs.reports.rows.command_rows.Given as goal

-- the rows of the regions so far were added
abbrev pub invariant-loop-region : goal.invariant-loop-region
invariant-loop-region l = l.rows.items ≡ flat_map (command_rows l.log) (upto l.region)
