use Rattle.std.proofs.Common.{◌≡◌, ◌++◌, length, vec_len}
use Rattle.std.specs.Prelude.{vec_capacity}
use Rattle.std.specs.Vec.Iter.{into_iter_items}
use Rattle.nvme_runs.specs.inside.Prepared.{AddsCqs}
use Rattle.nvme_runs.proofs.runs.setup.add_cqs.Given as goal

abbrev pub invariant-loop-plan : goal.invariant-loop-plan
invariant-loop-plan l =
    (goal.iterator-loop-plan).can_next l.plan-iterator
    × (goal.iterator-loop-plan).is_finite l.plan-iterator
    × (l.yielded ++ into_iter_items l.plan-iterator ≡ l.fn.plans.items)
    × (vec_len l.drainers ≡ length l.yielded)
    × (vec_capacity l.drainers ≡ vec_len l.fn.plans)
    × AddsCqs l.yielded l.drainers.items l.fn.front l.front
