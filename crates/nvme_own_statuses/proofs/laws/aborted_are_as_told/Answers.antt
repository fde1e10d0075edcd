use Rattle.nvme_own_statuses.proofs.TrueAborts.{aborted_are_as_told}
use Rattle.nvme_own_statuses.proofs.laws.aborted_are_as_told.Goals as goal

pub returns : goal.returns
returns c = aborted_are_as_told
