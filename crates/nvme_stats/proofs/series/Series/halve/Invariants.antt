use Rattle.std.proofs.Common.{◌*◌, ◌≤◌, length}
use Rattle.nvme_stats.proofs.series.Series.halve.Given as goal

-- the windows stay as many
abbrev pub invariant-loop-at : goal.invariant-loop-at
invariant-loop-at l = 2 * l.half ≤ length l.self.all.items
