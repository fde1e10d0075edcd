use Rattle.std.proofs.Common.{refl}
use Rattle.nvme_admin.specs.Checks.{some_below}
use Rattle.nvme_admin.specs.Accepted.{effects_of, queue_table, status_of, dw0_of, verdict_of}
use Rattle.nvme_admin.proofs.laws.placed_rows.Goals as goal

pub returns : goal.returns
unfolding some_below effects_of queue_table status_of dw0_of verdict_of
returns c = record { cq = refl; sq = refl; other = refl }
