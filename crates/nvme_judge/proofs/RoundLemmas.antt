-- What is used with the commands of a pick.
use Rattle.std.proofs.Common.{◌≡◌, ℕ, ◌+◌, ◌<◌, ◌≤◌, List, ◌∷◌, ◌++◌, refl, sym, ap, subst, ◌∙◌, arith}
use Rattle.std.specs.Prelude.{Option, Some, None, MatchOption}
use Rattle.nvme_arbiter.specs.Settings.{ArbitrationFields, weight_of, IsLevel}
use Rattle.nvme_arbiter.specs.History.{Picked, History, settings_after}
use Rattle.nvme_arbiter.specs.Observation.{class_in}
use Rattle.nvme_arbiter.specs.Standing.{used_of, used_with, used_before}
use Rattle.nvme_arbiter.specs.Specified.{starts_round, round_used, IsWithinCredit}
use Rattle.nvme_arbiter.specs.declared.settings.Class.{Class}
use Rattle.nvme_arbiter.specs.declared.settings.Class.TheVariants.{Admin, Urgent, High, Medium, Low}
use Rattle.nvme_arbiter.specs.declared.settings.Mechanism.{Mechanism}
use Rattle.nvme_arbiter.specs.declared.settings.Mechanism.TheVariants.{RoundRobin, Weighted}
use Rattle.nvme_arbiter.specs.declared.kept.Used.{Used}
use Rattle.nvme_arbiter.specs.declared.pick.Seen.{Seen}
use Rattle.nvme_arbiter.specs.declared.pick.Pick.{Pick}
use Rattle.nvme_judge.specs.Standing.{JudgeView, JudgeStandsAt, UsedIs, left_of, weight_left}
use Rattle.nvme_judge.specs.inside.Steps.{taken_of, used_after, IsWithinWeights}

-- ---- by level
added : (used : Used) (class : Option Class) (n : ℕ) (level : Class) → IsLevel level → used_of (used_with used class n) level ≡ used_of used level + taken_of level class n
added used class n Admin is = absurd is
added used class n Urgent is = absurd is
added used None n High is = omega arith
added used None n Medium is = omega arith
added used None n Low is = omega arith
added used (Some Admin) n High is = omega arith
added used (Some Admin) n Medium is = omega arith
added used (Some Admin) n Low is = omega arith
added used (Some Urgent) n High is = omega arith
added used (Some Urgent) n Medium is = omega arith
added used (Some Urgent) n Low is = omega arith
added used (Some High) n High is = refl
added used (Some High) n Medium is = omega arith
added used (Some High) n Low is = omega arith
added used (Some Medium) n High is = omega arith
added used (Some Medium) n Medium is = refl
added used (Some Medium) n Low is = omega arith
added used (Some Low) n High is = omega arith
added used (Some Low) n Medium is = omega arith
added used (Some Low) n Low is = refl

pub too_much : (settings : ArbitrationFields) (used : Used) (class : Option Class) (n : ℕ) (level : Class) → IsLevel level → weight_of settings level < used_of used level + taken_of level class n
    → IsWithinWeights settings (used_with used class n) → ⊥
too_much settings used class n level is much within =
    let e = added used class n level is in
    let least = within level is in omega arith

three : (settings : ArbitrationFields) (high medium low : ℕ) → high ≤ weight_of settings High → medium ≤ weight_of settings Medium → low ≤ weight_of settings Low → IsWithinWeights settings (record { high = high; medium = medium; low = low })
three settings high medium low h m l Admin is = absurd is
three settings high medium low h m l Urgent is = absurd is
three settings high medium low h m l High is = h
three settings high medium low h m l Medium is = m
three settings high medium low h m l Low is = l

-- ---- the credit of a history
AsUsed : ArbitrationFields → Used → Option Used → Type 0
AsUsed settings after r = MatchOption r (IsWithinWeights settings after → ⊥) (λ used. (used ≡ after) × IsWithinWeights settings used)

by_weights : (first : ArbitrationFields) (past : History) (seen : List Seen) (pick : Pick) (r : Option Used) → AsUsed (settings_after first past) (round_used first (Picked seen pick ∷ past)) r
    → MatchOption r (IsWithinCredit Weighted first past seen pick → ⊥) (λ used. IsWithinCredit Weighted first past seen pick × UsedIs Weighted first (Picked seen pick ∷ past) used)
unfolding AsUsed
by_weights first past seen pick None h = h
by_weights first past seen pick (Some used) (is, within) = (subst (IsWithinWeights (settings_after first past)) is within, is)

pub credit_by : (mechanism : Mechanism) (first : ArbitrationFields) (prior past : History) (seen : List Seen) (pick : Pick) (judge : JudgeView) (r : Option Used) → JudgeStandsAt mechanism first prior past judge → judge.mechanism ≡ Weighted
    → MatchOption r (IsWithinWeights judge.settings (used_after judge.settings judge.used seen pick) → ⊥) (λ used. (used ≡ used_after judge.settings judge.used seen pick) × IsWithinWeights judge.settings used)
    → MatchOption r (IsWithinCredit mechanism first (past ++ prior) seen pick → ⊥) (λ used. IsWithinCredit mechanism first (past ++ prior) seen pick × UsedIs mechanism first (Picked seen pick ∷ past ++ prior) used)
unfolding AsUsed
credit_by RoundRobin first prior past seen pick judge r stands is h = let other : RoundRobin ≡ Weighted = sym stands.mechanism_is ∙ is in absurd (cc)
credit_by Weighted first prior past seen pick judge r stands is h =
    let settings : AsUsed (settings_after first (past ++ prior)) (used_after (settings_after first (past ++ prior)) judge.used seen pick) r = subst (λ s. AsUsed s (used_after s judge.used seen pick) r) stands.settings_are h in
    by_weights first (past ++ prior) seen pick r (subst (λ u. AsUsed (settings_after first (past ++ prior)) (used_after (settings_after first (past ++ prior)) u seen pick) r) stands.tells.0 settings)

-- ---- what is left of the weight of a pick's level
pub left_by : (mechanism : Mechanism) (first : ArbitrationFields) (prior past : History) (seen : List Seen) (pick : Pick) (judge : JudgeView) (r : Option ℕ) → JudgeStandsAt mechanism first prior past judge → judge.mechanism ≡ Weighted
    → r ≡ left_of judge.settings (used_before (starts_round judge.settings judge.used seen pick) judge.used) (class_in seen pick.qid) → r ≡ weight_left mechanism first (past ++ prior) seen pick
left_by RoundRobin first prior past seen pick judge r stands is h = let other : RoundRobin ≡ Weighted = sym stands.mechanism_is ∙ is in absurd (cc)
left_by Weighted first prior past seen pick judge r stands is h =
    h ∙ (ap (λ (s : ArbitrationFields). left_of s (used_before (starts_round s judge.used seen pick) judge.used) (class_in seen pick.qid)) stands.settings_are
    ∙ ap (λ (u : Used). left_of (settings_after first (past ++ prior)) (used_before (starts_round (settings_after first (past ++ prior)) u seen pick) u) (class_in seen pick.qid)) stands.tells.0)
