use Rattle.std.proofs.Common.{◌≡◌, refl, subst}
use Rattle.std.proofs.lemmas.Option.{same_Some}
use Rattle.nvme_entry.specs.declared.submission.Sqe.{Sqe}
use Rattle.nvme_admin.specs.Accepted.{effects_of, queue_table, status_of, dw0_of, verdict_of}
use Rattle.nvme_log.specs.Completions.{own_dw0}
use Rattle.nvme_log.specs.Examples.{read, one_deletion}
use Rattle.nvme_log.specs.FourNumbers.{delete_sq_4}
use Rattle.nvme_log.specs.AbortExamples.{abort, abort_1_1, fused_abort, abort_picked, one_aborted, second_picked}
use Rattle.nvme_log.proofs.laws.aborts_are_told.Goals as goal

pub returns-clause-aborted : goal.returns-clause-aborted
unfolding effects_of queue_table status_of dw0_of verdict_of
returns-clause-aborted c = (refl, refl, record { entry = read 1; is_there = refl; region = refl; sqid = refl; cid = refl; status = refl; dw0 = refl; sqhd = refl; phase = refl })

pub returns-clause-deleted_after_abort : goal.returns-clause-deleted_after_abort
unfolding effects_of queue_table status_of dw0_of verdict_of
returns-clause-deleted_after_abort c = (refl, refl, record { entry = read 15; is_there = refl; region = refl; sqid = refl; cid = refl; status = refl; dw0 = refl; sqhd = refl; phase = refl })

pub returns-clause-aborted_before_delete : goal.returns-clause-aborted_before_delete
unfolding effects_of queue_table status_of dw0_of verdict_of
returns-clause-aborted_before_delete c = (refl, refl, record { entry = read 13; is_there = refl; region = refl; sqid = refl; cid = refl; status = refl; dw0 = refl; sqhd = refl; phase = refl })

pub returns-clause-found : goal.returns-clause-found
unfolding effects_of queue_table status_of dw0_of verdict_of
returns-clause-found c = (refl, refl, record { entry = abort_1_1; is_there = refl; region = refl; sqid = refl; cid = refl; status = refl; dw0 = refl; sqhd = refl; phase = refl })

pub returns-clause-none : goal.returns-clause-none
unfolding effects_of queue_table status_of dw0_of verdict_of
returns-clause-none c = (refl, refl, record { entry = abort 3 1 1; is_there = refl; region = refl; sqid = refl; cid = refl; status = refl; dw0 = refl; sqhd = refl; phase = refl })

pub returns-clause-of_no_queue : goal.returns-clause-of_no_queue
unfolding effects_of queue_table status_of dw0_of verdict_of
returns-clause-of_no_queue c = (refl, refl, record { entry = abort 2 9 1; is_there = refl; region = refl; sqid = refl; cid = refl; status = refl; dw0 = refl; sqhd = refl; phase = refl })

pub returns-clause-of_admin_queue : goal.returns-clause-of_admin_queue
unfolding effects_of queue_table status_of dw0_of verdict_of
returns-clause-of_admin_queue c = (refl, refl, record { entry = abort 2 0 3; is_there = refl; region = refl; sqid = refl; cid = refl; status = refl; dw0 = refl; sqhd = refl; phase = refl })

pub returns-clause-fused : goal.returns-clause-fused
unfolding effects_of queue_table status_of dw0_of verdict_of
returns-clause-fused c = (refl, refl, record { entry = fused_abort; is_there = refl; region = refl; sqid = refl; cid = refl; status = refl; dw0 = refl; sqhd = refl; phase = refl })

pub returns-clause-delete : goal.returns-clause-delete
unfolding effects_of queue_table status_of dw0_of verdict_of
returns-clause-delete c = (refl, refl, record { entry = delete_sq_4; is_there = refl; region = refl; sqid = refl; cid = refl; status = refl; dw0 = refl; sqhd = refl; phase = refl })

found_told_none : (e : Sqe) → abort_1_1 ≡ e → 1 ≡ own_dw0 one_deletion (one_aborted 2) 0 2 e → ⊥
unfolding effects_of queue_table status_of dw0_of verdict_of
found_told_none e same = subst (λ (z : Sqe). 1 ≡ own_dw0 one_deletion (one_aborted 2) 0 2 z → ⊥) same (λ h. let other : 1 ≡ 0 = h in cc other)

pub returns-clause-found_told_none : goal.returns-clause-found_told_none
returns-clause-found_told_none c h = found_told_none h.2.entry (same_Some abort_1_1 h.2.entry h.2.is_there) h.2.dw0

none_told_found : (e : Sqe) → (abort 3 1 1) ≡ e → 0 ≡ own_dw0 one_deletion (second_picked 2) 0 3 e → ⊥
unfolding effects_of queue_table status_of dw0_of verdict_of
none_told_found e same = subst (λ (z : Sqe). 0 ≡ own_dw0 one_deletion (second_picked 2) 0 3 z → ⊥) same (λ h. let other : 0 ≡ 1 = h in cc other)

pub returns-clause-none_told_found : goal.returns-clause-none_told_found
returns-clause-none_told_found c h = none_told_found h.2.entry (same_Some (abort 3 1 1) h.2.entry h.2.is_there) h.2.dw0

fused_told_none : (e : Sqe) → fused_abort ≡ e → 1 ≡ own_dw0 one_deletion (abort_picked fused_abort 2) 0 2 e → ⊥
unfolding effects_of queue_table status_of dw0_of verdict_of
fused_told_none e same = subst (λ (z : Sqe). 1 ≡ own_dw0 one_deletion (abort_picked fused_abort 2) 0 2 z → ⊥) same (λ h. let other : 1 ≡ 0 = h in cc other)

pub returns-clause-fused_told_none : goal.returns-clause-fused_told_none
returns-clause-fused_told_none c h = fused_told_none h.2.entry (same_Some fused_abort h.2.entry h.2.is_there) h.2.dw0
