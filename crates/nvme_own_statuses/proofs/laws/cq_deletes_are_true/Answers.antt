use Rattle.nvme_own_statuses.proofs.TrueCqDeletes.{cq_deletes_are_true}
use Rattle.nvme_own_statuses.proofs.laws.cq_deletes_are_true.Goals as goal

pub returns : goal.returns
returns c = cq_deletes_are_true
