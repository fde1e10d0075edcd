-- Of which commands verdicts are.
use Rattle.std.proofs.Common.{◌≡◌, ℕ, ◌==◌, Bool, true, false, if◌then◌else◌, ◌∷◌, Option, Some, None, refl, sym, ◌∙◌, subst, true≢false}
use Rattle.nvme_entry.specs.Status.{StatusCode, success}
use Rattle.nvme_entry.specs.AdminCommand.{admin_command_of}
use Rattle.nvme_entry.specs.declared.submission.Sqe.{Sqe}
use Rattle.nvme_entry.specs.declared.admin.AdminCommand.{AdminCommand}
use Rattle.nvme_entry.specs.declared.admin.AdminCommand.TheVariants as command
use Rattle.nvme_arbiter.specs.Settings.{ArbitrationFields}
use Rattle.nvme_admin.specs.declared.verdict.SqEntry.{SqEntry}
use Rattle.nvme_admin.specs.declared.verdict.Verdict.{Verdict}
use Rattle.nvme_admin.specs.declared.verdict.Verdict.TheVariants as verdict
use Rattle.nvme_admin.specs.History.{Start, TableHistory, EntryApplied, Placing}
use Rattle.nvme_admin.specs.QueueTable.{QueueTable, number_of_queues}
use Rattle.nvme_admin.specs.Checks.{is_success, verdict_after, opened_sq, opened_cq, dw0_after}
use Rattle.nvme_admin.specs.Accepted.{queue_table, status_of, verdict_of}
use Rattle.nvme_placing.specs.Telling.{IsToldBy}
use Rattle.nvme_admin.specs.Effects.{verdict_in}
use Rattle.nvme_ctrl.specs.declared.picks.Step.{Step}
use Rattle.nvme_ctrl.specs.declared.picks.Step.TheVariants as step
use Rattle.nvme_ctrl_log.specs.Steps.{IsVerdictOf, has_own_verdict}
use Rattle.nvme_ctrl_log.proofs.ToldVerdicts.{told_plain}

-- one that opens a queue is of any command
of_opened_sq : (c : AdminCommand) (q : ℕ) (o : Option SqEntry) → has_own_verdict c ≡ false → IsVerdictOf c (opened_sq q o)
of_opened_sq c q None plain = λ _. plain
of_opened_sq c q (Some entry) plain = tt

of_opened_cq : (c : AdminCommand) (q : ℕ) (o : Option ℕ) → has_own_verdict c ≡ false → IsVerdictOf c (opened_cq q o)
of_opened_cq c q None plain = λ _. plain
of_opened_cq c q (Some region) plain = tt

-- so is one of features
of_set : (c : AdminCommand) (b : Bool) (dw0 : ℕ) (settings : ArbitrationFields) → has_own_verdict c ≡ false → IsVerdictOf c (if b then verdict.Done success dw0 else verdict.SetArbitration settings)
of_set c true dw0 settings plain = λ _. plain
of_set c false dw0 settings plain = tt

-- the verdict on a command is of it
of_after : (t : QueueTable) (c : AdminCommand) → IsVerdictOf c (verdict_after t c)
of_after t (command.CreateSq q qsize prp1 cqid qprio pc) = of_opened_sq (command.CreateSq q qsize prp1 cqid qprio pc) q (t.sq q) refl
of_after t (command.CreateCq q qsize prp1 pc) = of_opened_cq (command.CreateCq q qsize prp1 pc) q (t.cq q) refl
of_after t (command.DeleteSq q) = refl
of_after t (command.DeleteCq q) = tt
of_after t (command.Abort sqid cid) = refl
of_after t (command.SetFeatures fid sv cdw11) =
    of_set (command.SetFeatures fid sv cdw11) (fid == number_of_queues) (dw0_after t (command.SetFeatures fid sv cdw11)) t.settings refl
of_after t (command.GetFeatures fid) = λ _. refl
of_after t command.Other = λ _. refl

of_by : (accepted : Bool) (status : StatusCode) (t : QueueTable) (c : AdminCommand) → is_success status ≡ accepted → IsVerdictOf c (if accepted then verdict_after t c else verdict.Done status 0)
of_by true status t c is = of_after t c
of_by false status t c is = λ yes. absurd (true≢false (sym yes ∙ is))

pub verdict_is_of : (start : Start) (h : TableHistory) (entry : Sqe) → IsVerdictOf (admin_command_of entry) (verdict_of start h entry)
unfolding verdict_of
verdict_is_of start h entry = of_by (is_success (status_of start h entry)) (status_of start h entry) (queue_table start (EntryApplied entry ∷ h)) (admin_command_of entry) refl

-- so is one that tells it
pub of_told : (c : AdminCommand) (p : Option Placing) (w v : Verdict) → IsToldBy p w v → IsVerdictOf c v → IsVerdictOf c w
of_told c p (verdict.Done status dw0) v told h = subst (IsVerdictOf c) (told_plain p (verdict.Done status dw0) v refl told) h
of_told c p (verdict.OpenSq qid region cqid class) v told h = tt
of_told c p (verdict.OpenCq qid region) v told h = tt
of_told c p (verdict.BeginDelete qid) v told h = subst (IsVerdictOf c) (told_plain p (verdict.BeginDelete qid) v refl told) h
of_told c p (verdict.CloseCq qid) v told h = tt
of_told c p (verdict.Abort sqid cid) v told h = subst (IsVerdictOf c) (told_plain p (verdict.Abort sqid cid) v refl told) h
of_told c p (verdict.SetArbitration settings) v told h = tt

-- so is that of the effect of a step
abbrev pub IsCommanded : Step → Type 0
IsCommanded (step.Done effect entry) = IsVerdictOf (admin_command_of entry) (verdict_in effect)
IsCommanded other = Unit {0}
