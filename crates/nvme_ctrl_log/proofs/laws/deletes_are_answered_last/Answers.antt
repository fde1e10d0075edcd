use Rattle.nvme_ctrl_log.proofs.Deletions.{deletes_are_answered_last}
use Rattle.nvme_ctrl_log.proofs.laws.deletes_are_answered_last.Goals as goal

pub returns : goal.returns
returns c = deletes_are_answered_last
