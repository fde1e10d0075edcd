use Rattle.std.proofs.Common.{◌≡◌, ◌+◌, drop}
use Rattle.nvme_points.specs.Estimates.{differences_from}
use Rattle.nvme_points.proofs.estimates.differences.Given as goal

-- the sum so far and that of what is left are that of all
abbrev pub invariant-loop-other : goal.invariant-loop-other
invariant-loop-other l = l.sum + differences_from l.value (drop l.other-index l.values) ≡ differences_from l.value l.values
