use Rattle.nvme_admin.proofs.Changed.{finish-takes_one, region-opens_admin, cq_region-opens_admin}
use Rattle.nvme_admin.proofs.laws.other_steps_change_one_queue.Goals as goal

pub returns : goal.returns
returns c = record { finish = finish-takes_one; sq_region = region-opens_admin; cq_region = cq_region-opens_admin }
