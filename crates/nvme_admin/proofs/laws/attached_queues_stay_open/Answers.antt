use Rattle.nvme_admin.proofs.LawLemmas.{attached-stay_open}
use Rattle.nvme_admin.proofs.laws.attached_queues_stay_open.Goals as goal

pub returns : goal.returns
returns c = attached-stay_open
