-- What lint foresees of a workload is what its runs answer.
use Rattle.std.proofs.Common.{◌≡◌, List, [], ◌∷◌, ◌++◌, map, take, reverse, refl, sym, ap, ◌∙◌, append_assoc}
use Rattle.std.specs.Prelude.{slice_get, slice_index_or}
use Rattle.std.proofs.lemmas.List.{append-nil, reverse-append}
use Rattle.nvme_entry.specs.declared.submission.Sqe.{Sqe}
use Rattle.nvme_admin.specs.History.{Start, TableHistory, TableStep, RegionAdded, EntryApplied, Submission, Completion}
use Rattle.nvme_admin.specs.Accepted.{status_of, verdict_of}
use Rattle.nvme_admin.specs.declared.verdict.Verdict.{Verdict}
use Rattle.nvme_admin.specs.declared.verdict.Verdict.TheVariants.{Done, BeginDelete, CloseCq}
use Rattle.nvme_admin.specs.declared.verdict.Verdict.TheVariants as verdict
use Rattle.nvme_workload.specs.declared.plan.SqPlan.{SqPlan}
use Rattle.nvme_workload.specs.declared.plan.CqPlan.{CqPlan}
use Rattle.nvme_workload.specs.Plan.{Plan}
use Rattle.nvme_log.specs.Foreseen.{finished_after, foreseen}
use Rattle.nvme_lint.specs.Warnings.{start_of, with_sqs, with_cqs, first_history, history_of, admin_script}
use Rattle.nvme_lint.specs.Warnings as lint
use Rattle.nvme_runs.specs.Runs.{sq_additions, cq_additions, rules_for, script_for}
use Rattle.nvme_runs.proofs.Answering.{answers_of_runs}
use Rattle.nvme_sim.specs.Laws.{LintForeseesAnswers}

-- a deletion is finished as in a log
finished-same : (v : Verdict) (h : TableHistory) → lint.finished_after v h ≡ finished_after v h
finished-same (Done status dw0) h = refl
finished-same (verdict.OpenSq q r c k) h = refl
finished-same (verdict.OpenCq q r) h = refl
finished-same (BeginDelete q) h = refl
finished-same (CloseCq q) h = refl
finished-same (verdict.Abort s c) h = refl
finished-same (verdict.SetArbitration settings) h = refl

-- so the histories are the same
history-same : (start : Start) (h : TableHistory) (entries : List Sqe) → history_of start h entries ≡ foreseen start h entries
unfolding history_of
history-same start h [] = refl
history-same start h (entry ∷ earlier) =
    finished-same (verdict_of start (history_of start h earlier) entry) (EntryApplied entry ∷ history_of start h earlier)
    ∙ ap (λ (t : TableHistory). finished_after (verdict_of start t entry) (EntryApplied entry ∷ t)) (history-same start h earlier)

-- ---- the regions of a workload
abbrev add_sq : SqPlan → TableStep
add_sq s = RegionAdded Submission s.address s.slots

abbrev add_cq : CqPlan → TableStep
add_cq c = RegionAdded Completion c.address c.slots

-- one step more, and the others in the other order
turned : (x : TableStep) (xs h : TableHistory) → reverse xs ++ x ∷ h ≡ reverse (x ∷ xs) ++ h
turned x xs h = sym (append_assoc (reverse xs) (x ∷ []) h) ∙ ap (λ (t : TableHistory). t ++ h) (sym (reverse-append (x ∷ []) xs))

with_sqs-is : (h : TableHistory) (plans : List SqPlan) → with_sqs h plans ≡ sq_additions plans ++ h
unfolding with_sqs
with_sqs-is h [] = refl
with_sqs-is h (p ∷ plans) = with_sqs-is (add_sq p ∷ h) plans ∙ turned (add_sq p) (map add_sq plans) h

with_cqs-is : (h : TableHistory) (plans : List CqPlan) → with_cqs h plans ≡ cq_additions plans ++ h
unfolding with_cqs
with_cqs-is h [] = refl
with_cqs-is h (p ∷ plans) = with_cqs-is (add_cq p ∷ h) plans ∙ turned (add_cq p) (map add_cq plans) h

first-same : (p : Plan) → first_history p ≡ (rules_for p).regions
first-same p =
    with_cqs-is (with_sqs [] p.submissions) p.completions
    ∙ ap (λ (h : TableHistory). cq_additions p.completions ++ h) (with_sqs-is [] p.submissions ∙ append-nil (sq_additions p.submissions))

-- the script of the admin queue
script-same : (p : Plan) → admin_script p.submissions ≡ script_for p 0
script-same p = by p.submissions where
  by : (plans : List SqPlan) → admin_script plans ≡ slice_index_or (map (λ (s : SqPlan). s.script) plans) 0 []
  by [] = refl
  by (s ∷ plans) = refl

pub lint_foresees : LintForeseesAnswers
lint_foresees text mode settled run later before c k cqe entry is there =
    let p = run.plan in
    let answered = answers_of_runs text mode settled run later before c k cqe entry is (ap (λ (xs : List Sqe). slice_get xs k) (sym (script-same p)) ∙ there) in
    answered
    ∙ ap (λ (h : TableHistory). status_of (start_of p) h entry)
    (sym (history-same (start_of p) (rules_for p).regions (reverse (take k (script_for p 0))))
    ∙ (λ t. history_of (start_of p) (sym (first-same p) t) (reverse (take k (sym (script-same p) t)))))
