use Rattle.nvme_pool.proofs.Once.{each_executed, each_gained}
use Rattle.nvme_pool.proofs.laws.nothing_left_means_all_done.Goals as goal

pub returns-clause-executed : goal.returns-clause-executed
returns-clause-executed c = each_executed

pub returns-clause-gained : goal.returns-clause-gained
returns-clause-gained c = each_gained
