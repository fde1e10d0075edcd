use Rattle.std.proofs.Common.{◌≡◌, ◌++◌}
use Rattle.std.specs.Vec.Iter.{into_iter_items}
use Rattle.nvme_numbers.specs.inside.Unions.{AreRanked}
use Rattle.nvme_numbers.proofs.answer.ranked_queues.Given as goal

-- the queues so far are ranked
abbrev pub invariant-loop-queue : goal.invariant-loop-queue
invariant-loop-queue l =
    (goal.iterator-loop-queue).can_next l.queue-iterator
    × (goal.iterator-loop-queue).is_finite l.queue-iterator
    × (l.yielded ++ into_iter_items l.queue-iterator ≡ l.fn.queues.items)
    × AreRanked l.yielded l.ranked.items
