use Rattle.std.proofs.Common.{◌≡◌, [], ◌∷◌, refl}
use Rattle.nvme_admin.specs.Accepted.{effects_of, queue_table, status_of, dw0_of, verdict_of}
use Rattle.nvme_log.specs.declared.event.Event.TheVariants.{Abort}
use Rattle.nvme_log.proofs.laws.changed_aborts_are_refused.Goals as goal

pub returns-clause-older : goal.returns-clause-older
unfolding effects_of queue_table status_of dw0_of verdict_of
returns-clause-older c = ([], refl)

pub returns-clause-not_at_once : goal.returns-clause-not_at_once
unfolding effects_of queue_table status_of dw0_of verdict_of
returns-clause-not_at_once c h = let e : [] ≡ Abort 1 1 ∷ [] = h in cc e

pub returns-clause-not_at_all : goal.returns-clause-not_at_all
unfolding effects_of queue_table status_of dw0_of verdict_of
returns-clause-not_at_all c h = let e : [] ≡ Abort 1 1 ∷ [] = h in cc e

pub returns-clause-of_another_identifier : goal.returns-clause-of_another_identifier
unfolding effects_of queue_table status_of dw0_of verdict_of
returns-clause-of_another_identifier c h = let e : Abort 1 1 ∷ h.0 ≡ [] = h.1 in cc e

pub returns-clause-of_no_queue : goal.returns-clause-of_no_queue
unfolding effects_of queue_table status_of dw0_of verdict_of
returns-clause-of_no_queue c h = let e : Abort 1 1 ∷ h.0 ≡ [] = h.1 in cc e

pub returns-clause-by_a_fused_command : goal.returns-clause-by_a_fused_command
unfolding effects_of queue_table status_of dw0_of verdict_of
returns-clause-by_a_fused_command c h = let e : Abort 1 1 ∷ h.0 ≡ [] = h.1 in cc e

pub returns-clause-oldest_of_all : goal.returns-clause-oldest_of_all
unfolding effects_of queue_table status_of dw0_of verdict_of
returns-clause-oldest_of_all c h = let e : Abort 2 2 ∷ h.0 ≡ Abort 2 3 ∷ [] = h.1 in cc e
