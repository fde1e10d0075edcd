use Rattle.std.proofs.Common.{◌≡◌, ◌++◌, drop}
use Rattle.nvme_short.specs.Names.{flat_from, step_places}
use Rattle.nvme_short.proofs.names.push_steps_of.Given as goal

abbrev pub invariant-loop-index : goal.invariant-loop-index
invariant-loop-index l = l.places.items ++ flat_from (step_places l.queues) l.index (drop l.index l.steps) ≡ l.fn.places.items ++ flat_from (step_places l.queues) 0 l.steps
