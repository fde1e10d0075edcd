use Rattle.nvme_ctrl_log.proofs.StepCounts.{steps_are_few}
use Rattle.nvme_ctrl_log.proofs.laws.steps_are_few.Goals as goal

pub returns : goal.returns
returns c = steps_are_few
