use Rattle.nvme_arbiter.proofs.RoundLaws.{used_within}
use Rattle.nvme_arbiter.proofs.laws.used_is_within_weight.Goals as goal

pub returns : goal.returns
returns c = used_within
