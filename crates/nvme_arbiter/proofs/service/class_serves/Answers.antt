use Rattle.nvme_arbiter.proofs.ServiceLemmas.{class_serves}
use Rattle.nvme_arbiter.proofs.service.class_serves.Goals as goal

pub returns : goal.returns
returns c = class_serves
