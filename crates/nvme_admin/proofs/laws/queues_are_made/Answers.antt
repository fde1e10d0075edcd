use Rattle.std.proofs.Common.{refl}
use Rattle.nvme_admin.specs.Accepted.{effects_of, queue_table, status_of, dw0_of, verdict_of}
use Rattle.nvme_admin.proofs.laws.queues_are_made.Goals as goal

pub returns : goal.returns
unfolding effects_of queue_table status_of dw0_of verdict_of
returns c = record { admin = refl; one = refl; two = refl; three = refl; cqs = refl; sqs_used = refl; cqs_used = refl; created = refl; none_before = refl; no_numbers = refl }
