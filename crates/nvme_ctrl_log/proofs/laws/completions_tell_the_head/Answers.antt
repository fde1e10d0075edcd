use Rattle.nvme_ctrl_log.proofs.Slots.{completions_tell_the_head}
use Rattle.nvme_ctrl_log.proofs.laws.completions_tell_the_head.Goals as goal

pub returns : goal.returns
returns c = completions_tell_the_head
