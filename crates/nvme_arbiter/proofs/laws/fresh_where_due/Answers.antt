use Rattle.nvme_arbiter.proofs.PickLaws.{fresh_due}
use Rattle.nvme_arbiter.proofs.laws.fresh_where_due.Goals as goal

pub returns : goal.returns
returns c = fresh_due
