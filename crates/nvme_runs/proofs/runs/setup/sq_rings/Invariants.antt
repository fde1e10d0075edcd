use Rattle.std.proofs.Common.{◌≡◌, ◌++◌, length, vec_len}
use Rattle.std.specs.List.{AllZip}
use Rattle.std.specs.Prelude.{vec_capacity}
use Rattle.std.specs.Vec.Iter.{into_iter_items}
use Rattle.nvme_runs.specs.inside.Prepared.{IsRingOf}
use Rattle.nvme_runs.proofs.runs.setup.sq_rings.Given as goal

abbrev pub invariant-loop-plan : goal.invariant-loop-plan
invariant-loop-plan l =
    (goal.iterator-loop-plan).can_next l.plan-iterator
    × (goal.iterator-loop-plan).is_finite l.plan-iterator
    × (l.yielded ++ into_iter_items l.plan-iterator ≡ l.fn.plans.items)
    × (vec_len l.rings ≡ length l.yielded)
    × (vec_capacity l.rings ≡ vec_len l.fn.plans)
    × AllZip IsRingOf l.yielded l.rings.items
