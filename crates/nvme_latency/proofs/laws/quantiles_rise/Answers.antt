use Rattle.nvme_latency.proofs.Ranks.{rise}
use Rattle.nvme_latency.proofs.laws.quantiles_rise.Goals as goal

pub returns : goal.returns
returns c = rise
