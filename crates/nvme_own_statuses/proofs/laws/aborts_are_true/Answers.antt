use Rattle.nvme_own_statuses.proofs.TrueAborts.{aborts_are_true}
use Rattle.nvme_own_statuses.proofs.laws.aborts_are_true.Goals as goal

pub returns : goal.returns
returns c = aborts_are_true
