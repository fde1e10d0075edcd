use Rattle.std.proofs.Common.{◌≡◌, ◌++◌, length, vec_len}
use Rattle.std.specs.List.{All}
use Rattle.std.specs.Prelude.{vec_capacity}
use Rattle.std.specs.Vec.Iter.{into_iter_items}
use Rattle.nvme_runs.specs.inside.Prepared.{AddsSqs, IsFreshRing}
use Rattle.nvme_runs.proofs.runs.setup.add_sqs.Given as goal

abbrev pub invariant-loop-ends : goal.invariant-loop-ends
invariant-loop-ends l =
    (goal.iterator-loop-ends).can_next l.ends-iterator
    × (goal.iterator-loop-ends).is_finite l.ends-iterator
    × (l.yielded ++ into_iter_items l.ends-iterator ≡ l.fn.rings.items)
    × (vec_len l.feeders ≡ length l.yielded)
    × (vec_capacity l.feeders ≡ vec_len l.fn.rings)
    × AddsSqs l.yielded l.feeders.items l.fn.front l.front
    × All IsFreshRing (into_iter_items l.ends-iterator)
