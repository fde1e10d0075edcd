use Rattle.nvme_arbiter.proofs.PickLaws.{prefixes}
use Rattle.nvme_arbiter.proofs.laws.prefixes_are_lawful.Goals as goal

pub returns : goal.returns
returns c = prefixes
