use Rattle.nvme_own_statuses.proofs.Statuses.{sqdels_are_asked}
use Rattle.nvme_own_statuses.proofs.laws.sqdels_are_asked.Goals as goal

pub returns : goal.returns
returns c = sqdels_are_asked
