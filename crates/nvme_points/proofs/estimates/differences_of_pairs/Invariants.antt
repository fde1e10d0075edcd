use Rattle.std.proofs.Common.{◌≡◌, ◌+◌, ℕ, drop}
use Rattle.std.specs.List.{sum_by}
use Rattle.nvme_points.specs.Estimates.{differences_from}
use Rattle.nvme_points.proofs.estimates.differences_of_pairs.Given as goal

-- the sum so far and that of what is left are that of all
abbrev pub invariant-loop-value : goal.invariant-loop-value
invariant-loop-value l = l.sum + sum_by (λ (v : ℕ). differences_from v l.values) (drop l.value-index l.values) ≡ sum_by (λ (v : ℕ). differences_from v l.values) l.values
