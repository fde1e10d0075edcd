use Rattle.nvme_latency.proofs.Ranks.{any_order}
use Rattle.nvme_latency.proofs.laws.order_is_no_matter.Goals as goal

pub returns : goal.returns
returns c = any_order
