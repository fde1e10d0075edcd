use Rattle.std.proofs.Common.{arith}
use Rattle.nvme_lane.proofs.Balances.{merges}
use Rattle.nvme_lane.proofs.teardown.join_pops.Goals as goal

pub absorb-requires-clause-rule : goal.absorb-requires-clause-rule
absorb-requires-clause-rule g c = merges _ _ _ _ (omega arith)
