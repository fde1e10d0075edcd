use Rattle.nvme_own_log.proofs.Fetches.{fetches_are_lawful}
use Rattle.nvme_own_log.proofs.laws.fetches_are_lawful.Goals as goal

pub returns : goal.returns
returns c = fetches_are_lawful
