-- Scripts that fit their rings.
use Rattle.std.proofs.Common.{◌≡◌, ℕ, ◌+◌, ◌<◌, ◌≤◌, List, [], ◌∷◌, ◌++◌, length, take, drop, get_or, sym, ap, ◌∙◌, subst, arith}
use Rattle.std.proofs.lemmas.List.{take-append-drop, drop_more, take_more, length-take-le}
use Rattle.nvme_workload.specs.declared.plan.SqPlan.{SqPlan}
use Rattle.nvme_runs.specs.Runs.{Fits, FitsAll, IsFirstTooLong}

-- a script more that fits
fits_push : (plans : List SqPlan) (plan : SqPlan) → FitsAll plans → Fits plan → FitsAll (plans ++ plan ∷ [])
fits_push [] plan all one = (one, tt)
fits_push (s ∷ plans) plan all one = (all.0, fits_push plans plan all.1 one)

-- where the scripts up to one fit, and it, so do those up to the next
pub fits_more : (plans : List SqPlan) (i : ℕ) (plan : SqPlan) → i < length plans → plan ≡ get_or plans i plan → FitsAll (take i plans) → length plan.script < plan.slots
    → FitsAll (take (i + 1) plans)
fits_more plans i plan l is all one =
    subst FitsAll (ap (λ s. take i plans ++ s ∷ []) is ∙ sym (take_more plans i plan l)) (fits_push (take i plans) plan all one)

-- where the scripts up to one fit, and it doesn't, it is the first
pub first_at : (plans : List SqPlan) (i r : ℕ) (plan : SqPlan) → i < length plans → plan ≡ get_or plans i plan → r ≡ i → FitsAll (take i plans) → plan.slots ≤ length plan.script
    → IsFirstTooLong plans r
first_at plans i r plan l is place all long = record {
  before = take i plans;
  plan = plan;
  after = drop (i + 1) plans;
  are = sym (take-append-drop i plans) ∙ ap (λ zs. take i plans ++ zs) (drop_more plans i plan l ∙ ap (λ s. s ∷ drop (i + 1) plans) (sym is));
  place = length-take-le i plans (omega arith) ∙ sym place;
  fit_before = all;
  too_long = long;
}
