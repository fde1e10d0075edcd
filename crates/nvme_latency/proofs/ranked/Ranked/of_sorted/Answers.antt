use Rattle.std.proofs.Common.{ℕ}
use Rattle.std.proofs.lemmas.List.Sorted.{IsNonDecreasingBy-from_sort}
use Rattle.nvme_latency.proofs.ranked.Ranked.of_sorted.Goals as goal

pub invariant_of-result : goal.invariant_of-result
invariant_of-result c = record { ordered = IsNonDecreasingBy-from_sort (λ (t : ℕ). t) c.args.times.items c.requires }
