use Rattle.nvme_latency.proofs.Ranks.{last}
use Rattle.nvme_latency.proofs.laws.longest_is_last.Goals as goal

pub returns : goal.returns
returns c = last
