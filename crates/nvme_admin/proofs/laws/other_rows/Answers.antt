use Rattle.std.proofs.Common.{refl}
use Rattle.nvme_admin.specs.Accepted.{effects_of, queue_table, status_of, dw0_of, verdict_of}
use Rattle.nvme_admin.proofs.laws.other_rows.Goals as goal

pub returns : goal.returns
unfolding effects_of queue_table status_of dw0_of verdict_of
returns c = refl
