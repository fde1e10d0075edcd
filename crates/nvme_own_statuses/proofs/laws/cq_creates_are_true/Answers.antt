use Rattle.nvme_own_statuses.proofs.TrueCreates.{cq_creates_are_true}
use Rattle.nvme_own_statuses.proofs.laws.cq_creates_are_true.Goals as goal

pub returns : goal.returns
returns c = cq_creates_are_true
