use Rattle.nvme_ctrl_log.proofs.Deletions.{picks_are_lawful}
use Rattle.nvme_ctrl_log.proofs.laws.picks_are_lawful.Goals as goal

pub returns : goal.returns
returns c = picks_are_lawful
