use Rattle.std.proofs.Common.{◌≡◌, ℕ, ◌+◌, ◌++◌, sum_by}
use Rattle.std.specs.Vec.Iter.{into_iter_items}
use Rattle.crossbeam_queue.specs.Passes.{view as hand_of}
use Rattle.crossbeam_queue.specs.Passes.{IsPassOf, IsSamePass}
use Rattle.nvme_lane.specs.Passes.{parts_of, weight_of}
use Rattle.nvme_lane.proofs.teardown.join_pops.Given as goal

abbrev pub invariant-loop-p : goal.invariant-loop-p
invariant-loop-p g l =
    (goal.iterator-loop-p g).can_next l.p-iterator
    × (goal.iterator-loop-p g).is_finite l.p-iterator
    × (l.yielded ++ into_iter_items l.p-iterator ≡ l.fn.pops.items)
    × IsPassOf l.queue l.root
    × IsSamePass l.initial.root l.root
    × ((hand_of l.root).parts ≡ (hand_of l.initial.root).parts + parts_of l.yielded)
    × ((hand_of l.root).put ≡ (hand_of l.initial.root).put)
    × ((h : _ → ℕ) → sum_by h (hand_of l.root).taken ≡ sum_by h (hand_of l.initial.root).taken + weight_of h l.yielded)
