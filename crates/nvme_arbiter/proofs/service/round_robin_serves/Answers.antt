use Rattle.nvme_arbiter.proofs.ServiceLemmas.{round_robin_serves}
use Rattle.nvme_arbiter.proofs.service.round_robin_serves.Goals as goal

pub returns : goal.returns
returns c = round_robin_serves
