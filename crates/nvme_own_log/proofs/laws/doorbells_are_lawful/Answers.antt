use Rattle.nvme_own_log.proofs.Doorbells.{doorbells_are_lawful}
use Rattle.nvme_own_log.proofs.laws.doorbells_are_lawful.Goals as goal

pub returns : goal.returns
returns c = doorbells_are_lawful
