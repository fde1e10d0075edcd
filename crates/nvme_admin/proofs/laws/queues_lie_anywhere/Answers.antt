use Rattle.std.proofs.Common.{refl}
use Rattle.nvme_admin.specs.Checks.{some_below}
use Rattle.nvme_admin.specs.Accepted.{effects_of, queue_table, status_of, dw0_of, verdict_of}
use Rattle.nvme_admin.proofs.laws.queues_lie_anywhere.Goals as goal

pub returns : goal.returns
unfolding some_below effects_of queue_table status_of dw0_of verdict_of
returns c = record { first = refl; second = refl; third = refl; cqs = refl; admin = refl; sqs_used = refl; cqs_used = refl; made = (refl, refl); none_made = (refl, refl); opens_sq = refl; opens_cq = refl; made_on_regions = (refl, refl) }
