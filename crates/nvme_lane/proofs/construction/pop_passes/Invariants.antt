use Rattle.std.proofs.Common.{◌≡◌, ◌-◌, replicate, vec_len}
use Rattle.std.specs.Prelude.{vec_capacity}
use Rattle.crossbeam_queue.specs.Passes.{view as hand_of}
use Rattle.crossbeam_queue.specs.Passes.{IsPassOf, IsSamePass}
use Rattle.nvme_lane.specs.Hands.{hand}
use Rattle.nvme_lane.specs.Passes.{fresh}
use Rattle.nvme_lane.proofs.construction.pop_passes.Given as goal

abbrev pub invariant-loop : goal.invariant-loop
invariant-loop g l =
    IsPassOf l.queue l.root
    × IsSamePass l.initial.root l.root
    × (hand_of l.root ≡ hand ((hand_of l.initial.root).parts - l.counter) (hand_of l.initial.root).put (hand_of l.initial.root).taken)
    × (l.passes.items ≡ replicate l.counter (fresh (record { name = l.initial.root.table_id; capacity = l.cap })))
    × (vec_len l.passes ≡ l.counter)
    × (vec_capacity l.passes ≡ l.count)
