use Rattle.std.proofs.Common.{rules}
use Rattle.nvme_output.proofs.Writing.{took_some}
use Rattle.nvme_output.proofs.pieces.put.Goals as goal

pub loop-rest-preserved : goal.loop-rest-preserved
loop-rest-preserved g c = took_some _ _ _ _ _ _ c.loop-rest.invariant (search rules)
