use Rattle.nvme_admin.proofs.LawLemmas.{regions-tell_queues}
use Rattle.nvme_admin.proofs.laws.regions_tell_queues.Goals as goal

pub returns : goal.returns
returns c = regions-tell_queues
