use Rattle.nvme_arbiter.proofs.PickLaws.{one_pick}
use Rattle.nvme_arbiter.proofs.laws.one_lawful_pick.Goals as goal

pub returns : goal.returns
returns c = one_pick
