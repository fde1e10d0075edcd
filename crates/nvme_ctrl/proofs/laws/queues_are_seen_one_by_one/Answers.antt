use Rattle.nvme_ctrl.proofs.SeenQueues.{seen_one_by_one}
use Rattle.nvme_ctrl.proofs.laws.queues_are_seen_one_by_one.Goals as goal

pub returns : goal.returns
returns c = seen_one_by_one
