use Rattle.nvme_own_log.proofs.AdminQueues.{admin_queues}
use Rattle.nvme_own_log.proofs.laws.admin_queues_are_lawful.Goals as goal

pub returns : goal.returns
returns c = admin_queues
