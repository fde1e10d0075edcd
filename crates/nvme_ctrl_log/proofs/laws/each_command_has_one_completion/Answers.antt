use Rattle.nvme_ctrl_log.proofs.Accounted.{one_completion_each}
use Rattle.nvme_ctrl_log.proofs.laws.each_command_has_one_completion.Goals as goal

pub returns : goal.returns
returns c = one_completion_each
