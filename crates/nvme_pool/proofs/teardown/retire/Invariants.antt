use Rattle.std.proofs.Common.{◌≡◌, ◌≤◌, ◌*◌, ◌++◌, length, vec_len}
use Rattle.std.specs.Prelude.{vec_capacity}
use Rattle.std.specs.List.{All}
use Rattle.std.specs.Vec.Iter.{into_iter_items}
use Rattle.nvme_lane.specs.Limits.{max_slots}
use Rattle.nvme_pool.specs.Passes.{passes_of}
use Rattle.nvme_pool.specs.Pool.{rings_of}
use Rattle.nvme_pool.specs.Seat.{rings_at}
use Rattle.nvme_pool.specs.Worker.{Accounts}
use Rattle.nvme_pool.proofs.Retiring.{Settles}
use Rattle.nvme_pool.proofs.teardown.retire.Given as goal

abbrev pub invariant-loop-worker : goal.invariant-loop-worker
invariant-loop-worker l =
    (goal.iterator-loop-worker).can_next l.worker-iterator
    × (goal.iterator-loop-worker).is_finite l.worker-iterator
    × (l.yielded ++ into_iter_items l.worker-iterator ≡ l.fn.workers.items)
    × (rings_of (into_iter_items l.worker-iterator) ≡ rings_at (into_iter_items l.ends))
    × (vec_len l.pops ≡ length l.yielded)
    × (vec_capacity l.pops ≡ vec_len l.fn.workers)
    × (l.rest ≤ max_slots * length l.yielded)
    × (l.pops.items ≡ passes_of l.yielded)
    × Settles l.fn.ends.items l.fn.workers.items (into_iter_items l.ends) (into_iter_items l.worker-iterator) l.rest
    × All Accounts l.yielded
