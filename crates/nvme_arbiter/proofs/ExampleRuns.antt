-- The worked examples, by tests that compute.
use Rattle.std.proofs.Common.{◌≡◌, ◌==◌, ◌&&◌, Bool, true, false, nat_le, List, [], ◌∷◌, refl, sym, ap, ◌∙◌}
use Rattle.std.specs.Prelude.{Option, Some, None}
use mathlib.Core.Bool.{beq}
use Rattle.std.proofs.lemmas.Bool.{and_parts, eqb-true, eq-eqb, leb-true, true≢false}
use Rattle.nvme_arbiter.specs.Settings.{ArbitrationFields}
use Rattle.nvme_arbiter.specs.declared.pick.Seen.{Seen}
use Rattle.nvme_arbiter.specs.declared.pick.Pick.{Pick}
use Rattle.nvme_arbiter.specs.declared.settings.Mechanism.{Mechanism}
use Rattle.nvme_arbiter.specs.Observation.{is_observation_from}
use Rattle.nvme_arbiter.specs.History.{Picked, Changed, History}
use Rattle.nvme_arbiter.specs.Lawful.{lawful_pick, limited_pick, IsLawfulPick, IsLawfulRun, IsLimitedPick, IsLimitedRun}
use Rattle.nvme_arbiter.proofs.PickLaws.{limits_are_picks, picks_are_of_limits}
use Rattle.nvme_arbiter.proofs.Observations.{observation_by_test, both_true, beq_itself}

-- whether a pick is the one
unfoldable pub is_pick : Pick → Option Pick → Bool
is_pick p None = false
is_pick p (Some q) = (p.qid == q.qid) && ((p.n == q.n) && beq p.fresh q.fresh)

unfoldable pub is_lawful_run : Mechanism → ArbitrationFields → History → Bool
is_lawful_run m first [] = true
is_lawful_run m first (Changed s ∷ past) = is_lawful_run m first past
is_lawful_run m first (Picked seen pick ∷ past) = is_observation_from 0 seen && (is_pick pick (lawful_pick m first past seen) && is_lawful_run m first past)

pick_from : (p : Pick) (o : Option Pick) → is_pick p o ≡ true → o ≡ Some p
unfolding is_pick
pick_from p None h = absurd (true≢false (sym h))
pick_from p (Some q) h =
    let a = and_parts (p.qid == q.qid) ((p.n == q.n) && beq p.fresh q.fresh) h in
    let b = and_parts (p.n == q.n) (beq p.fresh q.fresh) a.1 in
    let x : q.qid ≡ p.qid = sym (eqb-true p.qid q.qid a.0) in
    let y : q.n ≡ p.n = sym (eqb-true p.n q.n b.0) in
    let z : q.fresh ≡ p.fresh = sym (both_true p.fresh q.fresh b.1) in
    λ i. Some (record { qid = x i; n = y i; fresh = z i })

-- a run that passes the test is lawful
pub run_by_test : (m : Mechanism) (first : ArbitrationFields) (past : History) → is_lawful_run m first past ≡ true → IsLawfulRun m first past
unfolding is_lawful_run
run_by_test m first [] h = tt
run_by_test m first (Changed s ∷ past) h = run_by_test m first past h
run_by_test m first (Picked seen pick ∷ past) h =
    let a = and_parts (is_observation_from 0 seen) (is_pick pick (lawful_pick m first past seen) && is_lawful_run m first past) h in
    let b = and_parts (is_pick pick (lawful_pick m first past seen)) (is_lawful_run m first past) a.1 in
    (observation_by_test seen a.0, pick_from pick (lawful_pick m first past seen) b.0, run_by_test m first past b.1)

pub picks_itself : (p : Pick) → is_pick p (Some p) ≡ true
unfolding is_pick
picks_itself p = rw (eq-eqb p.qid p.qid refl) (rw (eq-eqb p.n p.n refl) (beq_itself p.fresh p.fresh refl))

-- a pick that fails the test is not lawful
pub not_lawful : (m : Mechanism) (first : ArbitrationFields) (past : History) (seen : List Seen) (p : Pick) → is_pick p (lawful_pick m first past seen) ≡ false → IsLawfulPick m first past seen p → ⊥
not_lawful m first past seen p f h = true≢false (sym (picks_itself p) ∙ (sym (ap (is_pick p) h) ∙ f))

-- ---- runs with limits
unfoldable pub is_limited_run : Mechanism → ArbitrationFields → History → Bool
is_limited_run m first [] = true
is_limited_run m first (Changed s ∷ past) = is_limited_run m first past
is_limited_run m first (Picked seen pick ∷ past) =
    is_observation_from 0 seen && ((nat_le 1 pick.n) && (is_pick pick (limited_pick pick.n m first past seen) && is_limited_run m first past))

-- a run that passes the test is lawful with limits
pub limited_by_test : (m : Mechanism) (first : ArbitrationFields) (past : History) → is_limited_run m first past ≡ true → IsLimitedRun m first past
unfolding is_limited_run
limited_by_test m first [] h = tt
limited_by_test m first (Changed s ∷ past) h = limited_by_test m first past h
limited_by_test m first (Picked seen pick ∷ past) h =
    let a = and_parts (is_observation_from 0 seen) _ h in
    let b = and_parts (nat_le 1 pick.n) _ a.1 in
    let c = and_parts (is_pick pick (limited_pick pick.n m first past seen)) (is_limited_run m first past) b.1 in
    let o = observation_by_test seen a.0 in
    (o, (limits_are_picks pick.n m first past seen pick o (leb-true 1 pick.n b.0) (pick_from pick (limited_pick pick.n m first past seen) c.0)).0, limited_by_test m first past c.1)

-- a pick that isn't made with its own number as the limit is lawful for none
pub not_limited : (m : Mechanism) (first : ArbitrationFields) (past : History) (seen : List Seen) (p : Pick) → is_pick p (limited_pick p.n m first past seen) ≡ false → IsLimitedPick m first past seen p → ⊥
not_limited m first past seen p f h = true≢false (sym (picks_itself p) ∙ (sym (ap (is_pick p) (picks_are_of_limits m first past seen p h)) ∙ f))
