use Rattle.nvme_arbiter.proofs.ServiceLemmas.{low_is_served}
use Rattle.nvme_arbiter.proofs.service.low_is_served.Goals as goal

pub returns : goal.returns
returns c = low_is_served
