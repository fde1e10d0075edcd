use Rattle.nvme_bounds.proofs.Composed.{waits_are_short}
use Rattle.nvme_bounds.proofs.laws.waits_are_short.Goals as goal

pub returns : goal.returns
returns c = waits_are_short
