-- What is used in a round of a lawful run, and where nothing is picked.
use Rattle.std.proofs.Common.{◌≡◌, ℕ, ◌+◌, ◌<◌, ◌≤◌, inl, inr, min, Bool, true, false, List, [], ◌∷◌, sym, ap, subst, ◌∙◌, arith}
use Rattle.std.specs.Prelude.{Option, Some, if◌then◌else◌}
use Rattle.std.proofs.lemmas.Bool.{cases_Bool, cond-false}
use Rattle.nvme_arbiter.specs.Settings.{ArbitrationFields, burst_of, weight_of, IsLevel}
use Rattle.nvme_arbiter.specs.declared.pick.Seen.{Seen}
use Rattle.nvme_arbiter.specs.declared.pick.Pick.{Pick}
use Rattle.nvme_arbiter.specs.declared.settings.Class.{Class}
use Rattle.nvme_arbiter.specs.declared.settings.Class.TheVariants.{Admin, Urgent}
use Rattle.nvme_arbiter.specs.declared.settings.Mechanism.TheVariants.{RoundRobin, Weighted}
use Rattle.nvme_arbiter.specs.Observation.{is_class, IsObservation, class_in}
use Rattle.nvme_arbiter.specs.History.{Picked, Changed, settings_after, last_served, last_served_of, is_in_class, taken, used_in_round}
use Rattle.nvme_arbiter.specs.Rules.{within_burst, credit}
use Rattle.nvme_arbiter.specs.Laws.{UsedIsWithinWeight, NoneWhereIdle}
use Rattle.nvme_arbiter.proofs.Choices.{same_class, Choice, of_admin, of_urgent, of_level, limited_choice, round_robin_idle, weighted_idle}
use Rattle.nvme_arbiter.proofs.Stands.{from_in}

-- a pick takes of its own class alone
taken_of : (level class : Class) (seen : List Seen) (p : Pick) → class_in seen p.qid ≡ Some class → taken level seen p ≡ (if is_class level class then p.n else 0)
taken_of level class seen p e = ap (λ o. if is_in_class level o then p.n else 0) e

no_level : (level class : Class) (n : ℕ) → IsLevel level → (IsLevel class → ⊥) → (if is_class level class then n else 0) ≡ 0
no_level level class n l h =
    elim (cases_Bool (is_class level class)) [
      | inl t ↦ absurd (h (subst IsLevel (same_class level class t) l))
      | inr f ↦ cond-false (is_class level class) n 0 f
    ]

-- where a level has credit, what is taken of it and what was used is within the weight
level_within : (s : ArbitrationFields) (used : Class → ℕ) (level class : Class) (fresh : Bool) (n : ℕ) → used level ≤ weight_of s level → n ≤ credit s used fresh class → 0 < credit s used fresh class → (if is_class level class then n else 0) + (if fresh then 0 else used level) ≤ weight_of s level
level_within s used level class fresh n h few some =
    elim (cases_Bool (is_class level class)) [
      | inl t ↦ (let same : class ≡ level = sym (same_class level class t) in
          let less : n ≤ credit s used fresh level = subst (λ c. n ≤ credit s used fresh c) same few in
          rw t (elim fresh as (λ b. n ≤ credit s used b level → n + (if b then 0 else used level) ≤ weight_of s level) [ true ↦ λ a. omega arith | false ↦ λ a. omega arith ] less))
      | inr f ↦ rw f (elim fresh as (λ b. 0 + (if b then 0 else used level) ≤ weight_of s level) [ true ↦ omega arith | false ↦ omega arith ])
    ]

-- what a pick takes of a level, and what it leaves used of it, is within the weight
pick_within : (s : ArbitrationFields) (last : Class → Option ℕ) (used : Class → ℕ) (seen : List Seen) (p : Pick) (level : Class) → IsObservation seen → IsLevel level → used level ≤ weight_of s level → Choice s last used seen p → taken level seen p + (if p.fresh then 0 else used level) ≤ weight_of s level
pick_within s last used seen p level o l h (of_admin f) =
    let none : taken level seen p ≡ 0 = taken_of level Admin seen p (from_in last seen Admin false (λ q. 1) p o f) ∙ no_level level Admin p.n l (λ x. x) in
    let kept : 0 + used level ≤ weight_of s level = omega arith in
    rw (none, f.taken_is.fresh_is) kept
pick_within s last used seen p level o l h (of_urgent f) =
    let none : taken level seen p ≡ 0 = taken_of level Urgent seen p (from_in last seen Urgent false (λ q. within_burst (burst_of s) q.count) p o f) ∙ no_level level Urgent p.n l (λ x. x) in
    let kept : 0 + used level ≤ weight_of s level = omega arith in
    rw (none, f.taken_is.fresh_is) kept
pick_within s last used seen p level o l h (of_level fresh class f) =
    let number : Seen → ℕ = λ q. min (within_burst (burst_of s) q.count) (credit s used fresh class) in
    let taken : p.n ≤ number f.from.queue = f.from.taken_is.few in
    let few : p.n ≤ credit s used fresh class = omega arith in
    rw (taken_of level class seen p (from_in last seen class fresh number p o f.from), f.from.taken_is.fresh_is) (level_within s used level class fresh p.n h few f.has_credit)

pub used_within : UsedIsWithinWeight
used_within first [] level r l = omega arith
used_within first (Changed settings ∷ past) level r l = omega arith
used_within first (Picked seen pick ∷ past) level r l =
    pick_within (settings_after first past) (λ c. last_served_of c past) (λ k. used_in_round k past) seen pick level r.0 l (used_within first past level r.2 l)
    (limited_choice first past seen pick r.1)

-- ---- where nothing is picked
pub idle_law : NoneWhereIdle
idle_law RoundRobin first past seen = round_robin_idle (settings_after first past) (last_served past) seen
idle_law Weighted first past seen = weighted_idle (settings_after first past) (λ c. last_served_of c past) (λ k. used_in_round k past) seen
