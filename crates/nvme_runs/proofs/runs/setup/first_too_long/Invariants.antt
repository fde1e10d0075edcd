use Rattle.std.proofs.Common.{◌≡◌, take}
use Rattle.nvme_runs.specs.Runs.{FitsAll}
use Rattle.nvme_runs.proofs.runs.setup.first_too_long.Given as goal

abbrev pub invariant-loop-plan : goal.invariant-loop-plan
invariant-loop-plan l = FitsAll (take l.plan-index l.submissions) × (l.region ≡ l.plan-index)
