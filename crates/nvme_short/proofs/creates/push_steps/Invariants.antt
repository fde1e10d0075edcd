use Rattle.std.proofs.Common.{◌≡◌, ◌++◌, drop}
use Rattle.nvme_short.specs.Documents.{flat, step_items}
use Rattle.nvme_short.proofs.creates.push_steps.Given as goal

abbrev pub invariant-loop-step : goal.invariant-loop-step
invariant-loop-step l = l.items.items ++ flat (step_items l.queues) (drop l.step-index l.steps) ≡ l.fn.items.items ++ flat (step_items l.queues) l.steps
