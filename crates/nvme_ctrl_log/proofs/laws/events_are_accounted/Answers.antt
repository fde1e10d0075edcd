use Rattle.nvme_ctrl_log.proofs.Accounted.{events_are_accounted}
use Rattle.nvme_ctrl_log.proofs.laws.events_are_accounted.Goals as goal

pub returns : goal.returns
returns c = events_are_accounted
