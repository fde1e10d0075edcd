use Rattle.std.proofs.Common.{refl}
use Rattle.nvme_admin.specs.Checks.{some_below}
use Rattle.nvme_admin.specs.Accepted.{effects_of, queue_table, status_of, dw0_of, verdict_of}
use Rattle.nvme_admin.proofs.laws.deletions_finish.Goals as goal

pub returns : goal.returns
unfolding some_below effects_of queue_table status_of dw0_of verdict_of
returns c = record { both_gone = refl; still_used = refl; open_stays = refl; used_again = refl; urgent = refl; attached_till_then = refl; then_free = refl; cq_gone = refl; refused_changes_nothing = refl }
