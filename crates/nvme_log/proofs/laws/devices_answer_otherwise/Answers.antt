use Rattle.std.proofs.Common.{◌≡◌, ap, subst}
use Rattle.std.proofs.lemmas.Option.{same_Some}
use Rattle.nvme_entry.specs.Status.{StatusCode}
use Rattle.nvme_admin.specs.Accepted.{effects_of, queue_table, status_of, dw0_of, verdict_of}
use Rattle.nvme_entry.specs.declared.submission.Sqe.{Sqe}
use Rattle.nvme_log.specs.Completions.{own_status}
use Rattle.nvme_log.specs.Examples.{read, one_deletion, one_picked}
use Rattle.nvme_log.specs.AnswerExamples.{read_error}
use Rattle.nvme_log.proofs.AnswerExamples.{failed_account, aborted_own}
use Rattle.nvme_log.proofs.laws.devices_answer_otherwise.Goals as goal

pub returns-clause-accounted : goal.returns-clause-accounted
returns-clause-accounted c = failed_account

-- the outcome of the Read isn't the error
no_error : (e : Sqe) → read 0 ≡ e → read_error.status ≡ own_status one_deletion one_picked 1 0 e → ⊥
unfolding effects_of queue_table status_of dw0_of verdict_of
no_error e same = subst (λ (z : Sqe). read_error.status ≡ own_status one_deletion one_picked 1 0 z → ⊥) same (λ h. let other : 2 ≡ 0 = ap (λ (code : StatusCode). code.sct) h in cc other)

pub returns-clause-not_by_outcome : goal.returns-clause-not_by_outcome
returns-clause-not_by_outcome c h = let own = h.posts_own.0.2 in no_error own.entry (same_Some (read 0) own.entry own.is_there) own.status

pub returns-clause-other_status : goal.returns-clause-other_status
returns-clause-other_status c h = let other : 0 ≡ 2 = ap (λ (code : StatusCode). code.sct) h.2.status in cc other

pub returns-clause-other_dw0 : goal.returns-clause-other_dw0
returns-clause-other_dw0 c h = let other : 0 ≡ 7 = h.2.dw0 in cc other

pub returns-clause-aborted : goal.returns-clause-aborted
returns-clause-aborted c = aborted_own
