use Rattle.std.proofs.Common.{refl}
use Rattle.nvme_admin.specs.Accepted.{effects_of, queue_table, status_of, dw0_of, verdict_of}
use Rattle.nvme_admin.proofs.laws.numbers_are_fixed.Goals as goal

pub returns : goal.returns
unfolding effects_of queue_table status_of dw0_of verdict_of
returns c = record { before = (refl, refl); fixed = (refl, refl); is_set = refl; answered = refl; within_limits = refl; second_is_answered = refl; second_changes_nothing = refl; told = refl; beyond = refl; refused_is_zero = refl }
