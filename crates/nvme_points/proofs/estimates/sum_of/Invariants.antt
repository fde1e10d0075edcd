use Rattle.std.proofs.Common.{◌≡◌, ◌+◌, sum, drop}
use Rattle.nvme_points.proofs.estimates.sum_of.Given as goal

-- the sum so far and that of what is left are that of all
abbrev pub invariant-loop-value : goal.invariant-loop-value
invariant-loop-value l = l.sum + sum (drop l.value-index l.values) ≡ sum l.values
