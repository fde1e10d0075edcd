use Rattle.std.proofs.Common.{◌≡◌, ◌++◌, length, vec_len}
use Rattle.std.specs.Prelude.{vec_capacity}
use Rattle.std.specs.Vec.Iter.{into_iter_items}
use Rattle.std.specs.List.{All}
use Rattle.nvme_pool.specs.Passes.{passes_of}
use Rattle.nvme_pool.specs.Pool.{IsFreshEnd, HavePlaces, rings_of}
use Rattle.nvme_pool.specs.Seat.{rings_at}
use Rattle.nvme_pool.specs.Worker.{IsFresh}
use Rattle.nvme_pool.proofs.construction.with_rings.Given as goal

abbrev pub invariant-loop-jobs : goal.invariant-loop-jobs
invariant-loop-jobs l =
    (goal.iterator-loop-jobs).can_next l.jobs-iterator
    × (goal.iterator-loop-jobs).is_finite l.jobs-iterator
    × (l.yielded ++ into_iter_items l.jobs-iterator ≡ l.fn.pops.items)
    × (vec_len l.made ≡ length l.yielded)
    × (vec_len l.ends ≡ length l.yielded)
    × (vec_capacity l.made ≡ vec_len l.fn.pops)
    × (vec_capacity l.ends ≡ vec_len l.fn.pops)
    × (l.yielded ≡ passes_of l.made.items)
    × (rings_of l.made.items ≡ rings_at l.ends.items)
    × All IsFresh l.made.items
    × All IsFreshEnd l.ends.items
    × HavePlaces l.ends.items
