use Rattle.std.proofs.Common.{refl}
use Rattle.nvme_admin.specs.Accepted.{effects_of, queue_table, status_of, dw0_of, verdict_of}
use Rattle.nvme_admin.proofs.laws.feature_rows.Goals as goal

pub returns : goal.returns
unfolding effects_of queue_table status_of dw0_of verdict_of
returns c = record { before_create = refl; set = refl; get = refl }
