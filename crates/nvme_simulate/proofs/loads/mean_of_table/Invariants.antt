use Rattle.std.proofs.Common.{◌≡◌, ℕ, ◌*◌, ◌^◌, ◌<◌, get_or, sum_by, take}
use Rattle.nvme_simulate.proofs.loads.mean_of_table.Given as goal

-- the quantiles so far, each twice; and each has 64 bits
abbrev pub invariant-loop-value : goal.invariant-loop-value
invariant-loop-value l =
    record { so_far : l.twice ≡ sum_by (λ v. v * 2) (take l.value-index l.values); each : (k : ℕ) → get_or l.values k 0 < 2 ^ 64 }
