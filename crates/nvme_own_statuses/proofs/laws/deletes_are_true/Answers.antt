use Rattle.nvme_own_statuses.proofs.TrueDeletes.{deletes_are_true}
use Rattle.nvme_own_statuses.proofs.laws.deletes_are_true.Goals as goal

pub returns : goal.returns
returns c = deletes_are_true
