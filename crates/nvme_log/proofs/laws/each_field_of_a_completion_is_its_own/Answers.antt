use Rattle.std.proofs.Common.{◌≡◌, true, false, refl, subst, ap}
use Rattle.nvme_entry.specs.Status.{StatusCode, invalid_field}
use Rattle.nvme_admin.specs.Accepted.{effects_of, queue_table, status_of, dw0_of, verdict_of}
use Rattle.std.proofs.lemmas.Option.{same_Some}
use Rattle.nvme_entry.specs.declared.submission.Sqe.{Sqe}
use Rattle.nvme_log.specs.Completions.{own_status, own_dw0}
use Rattle.nvme_log.specs.Examples.{read, create_sq, get_arbitration, two_slots, last_picked, one_deletion, queue_created}
use Rattle.nvme_log.proofs.laws.each_field_of_a_completion_is_its_own.Goals as goal

pub returns-clause-own : goal.returns-clause-own
unfolding effects_of queue_table status_of dw0_of verdict_of
returns-clause-own c =
    (refl, refl, record { entry = read 0; is_there = refl; region = refl; sqid = refl; cid = refl; status = refl; dw0 = refl; sqhd = refl; phase = refl })

pub returns-clause-sqhd : goal.returns-clause-sqhd
unfolding effects_of queue_table status_of dw0_of verdict_of
returns-clause-sqhd c h = let e : 1 ≡ 3 = h.2.sqhd in cc e

pub returns-clause-phase : goal.returns-clause-phase
unfolding effects_of queue_table status_of dw0_of verdict_of
returns-clause-phase c h = let e : false ≡ true = h.2.phase in cc e

other_dw0 : (e : Sqe) → get_arbitration 3 ≡ e → 0 ≡ own_dw0 two_slots last_picked 0 3 e → ⊥
unfolding effects_of queue_table status_of dw0_of verdict_of
other_dw0 e same = subst (λ (z : Sqe). 0 ≡ own_dw0 two_slots last_picked 0 3 z → ⊥) same (λ h. let other : 0 ≡ 0x03010001 = h in cc other)

pub returns-clause-dw0_of_a_feature : goal.returns-clause-dw0_of_a_feature
returns-clause-dw0_of_a_feature c h = other_dw0 h.2.entry (same_Some (get_arbitration 3) h.2.entry h.2.is_there) h.2.dw0

other_status : (e : Sqe) → create_sq ≡ e → invalid_field ≡ own_status one_deletion queue_created 0 1 e → ⊥
unfolding effects_of queue_table status_of dw0_of verdict_of
other_status e same =
    subst (λ (z : Sqe). invalid_field ≡ own_status one_deletion queue_created 0 1 z → ⊥) same (λ h. let other : 2 ≡ 0 = ap (λ (code : StatusCode). code.sc) h in cc other)

pub returns-clause-status_of_a_create : goal.returns-clause-status_of_a_create
returns-clause-status_of_a_create c h = other_status h.2.entry (same_Some create_sq h.2.entry h.2.is_there) h.2.status
