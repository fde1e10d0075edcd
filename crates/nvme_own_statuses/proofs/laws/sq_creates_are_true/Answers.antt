use Rattle.nvme_own_statuses.proofs.TrueSqCreates.{sq_creates_are_true}
use Rattle.nvme_own_statuses.proofs.laws.sq_creates_are_true.Goals as goal

pub returns : goal.returns
returns c = sq_creates_are_true
