use Rattle.nvme_ctrl_log.proofs.Arranged.{observed_as_in_the_log}
use Rattle.nvme_ctrl_log.proofs.laws.unarranged_queues_are_seen.Goals as goal

pub returns : goal.returns
returns c = observed_as_in_the_log
