use Rattle.nvme_own_statuses.proofs.Statuses.{aborts_are_asked}
use Rattle.nvme_own_statuses.proofs.laws.aborts_are_asked.Goals as goal

pub returns : goal.returns
returns c = aborts_are_asked
