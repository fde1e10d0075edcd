use Rattle.nvme_own_log.proofs.Completions.{completions_are_lawful}
use Rattle.nvme_own_log.proofs.laws.completions_are_lawful.Goals as goal

pub returns : goal.returns
returns c = completions_are_lawful
