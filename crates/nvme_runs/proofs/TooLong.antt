-- The first script that is too long for its ring is one.
use Rattle.std.proofs.Common.{◌≡◌, ℕ, ◌<◌, ◌≤◌, List, [], ◌∷◌, ◌++◌, length, refl, sym, ap, ◌∙◌, subst, arith, Result, Ok, Err, IsErrAnd}
use Rattle.nvme_workload.specs.declared.plan.SqPlan.{SqPlan}
use Rattle.nvme_workload.specs.Plan.{Plan, workload_of}
use Rattle.nvme_runs.specs.declared.runs.RunError.{RunError}
use Rattle.nvme_runs.specs.Runs.{Fits, FitsAll, IsFirstTooLong}

-- scripts that all fit, and one that doesn't
none_fits : (before : List SqPlan) (plan : SqPlan) (after : List SqPlan) → FitsAll (before ++ plan ∷ after) → plan.slots ≤ length plan.script → ⊥
none_fits [] plan after fits long = let here : length plan.script < plan.slots = fits.0 in omega arith
none_fits (s ∷ before) plan after fits long = none_fits before plan after fits.1 long

-- where all scripts fit none is the first that doesn't
pub all_fit : (plans : List SqPlan) (r : ℕ) → FitsAll plans → IsFirstTooLong plans r → ⊥
all_fit plans r fits h = none_fits h.before h.plan h.after (subst FitsAll h.are fits) h.too_long

-- of two first ones neither is before the other
same_place : (before : List SqPlan) (plan : SqPlan) (after before' : List SqPlan) (plan' : SqPlan) (after' : List SqPlan) → before ++ plan ∷ after ≡ before' ++ plan' ∷ after'
    → FitsAll before → plan.slots ≤ length plan.script → FitsAll before' → plan'.slots ≤ length plan'.script → length before ≡ length before'
same_place [] plan after [] plan' after' are fits long fits' long' = refl
same_place [] plan after (t ∷ before') plan' after' are fits long fits' long' =
    let first : plan ≡ t = cc in
    let here : Fits plan = subst Fits (sym first) fits'.0 in
    omega (arith, here)
same_place (s ∷ before) plan after [] plan' after' are fits long fits' long' =
    let first : s ≡ plan' = cc in
    let here : Fits plan' = subst Fits first fits.0 in
    omega (arith, here)
same_place (s ∷ before) plan after (t ∷ before') plan' after' are fits long fits' long' =
    let rest : before ++ plan ∷ after ≡ before' ++ plan' ∷ after' = cc in
    omega (arith, same_place before plan after before' plan' after' rest fits.1 long fits'.1 long')

-- the first that is too long stands at one place
pub one_first : (plans : List SqPlan) (r q : ℕ) → IsFirstTooLong plans r → IsFirstTooLong plans q → r ≡ q
one_first plans r q a b =
    sym a.place
    ∙ same_place a.before a.plan a.after b.before b.plan b.after (sym a.are ∙ b.are) a.fit_before a.too_long b.fit_before b.too_long
    ∙ b.place

-- where the scripts of the workload of a text all fit none is too long
pub none_longer : (text : List ℕ) (p plan : Plan) (r : ℕ) → workload_of text ≡ Ok p → FitsAll p.submissions → workload_of text ≡ Ok plan → IsFirstTooLong plan.submissions r → ⊥
none_longer text p plan r read fit is first =
    let same : plan ≡ p = let e = sym is ∙ read in cc in
    all_fit p.submissions r fit (subst (λ (q : Plan). IsFirstTooLong q.submissions r) same first)

-- an error that is passed on as it is
pub passed_on : {T : Type 0} (result : Result T RunError) (e : RunError) → IsErrAnd result (λ x. x ≡ e) → result ≡ Err e
passed_on (Ok t) e h = absurd h
passed_on (Err x) e h = ap (λ (y : RunError). Err y) h
