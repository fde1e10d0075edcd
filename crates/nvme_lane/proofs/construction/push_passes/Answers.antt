use Rattle.std.proofs.Common.{arith, ap}
use Rattle.nvme_lane.proofs.Balances.{forks}
use Rattle.nvme_lane.proofs.construction.push_passes.Goals as goal

pub another-requires-clause-rule : goal.another-requires-clause-rule
another-requires-clause-rule g c = forks _ _ (let e = ap (λ v. v.parts) c.loop.invariant.2 in omega arith)
