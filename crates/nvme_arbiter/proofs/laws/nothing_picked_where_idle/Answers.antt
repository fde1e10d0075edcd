use Rattle.nvme_arbiter.proofs.RoundLaws.{idle_law}
use Rattle.nvme_arbiter.proofs.laws.nothing_picked_where_idle.Goals as goal

pub returns : goal.returns
returns c = idle_law
