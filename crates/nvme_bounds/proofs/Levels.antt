-- How many commands of other levels are picked before one of a level.
use Rattle.std.proofs.Common.{◌≡◌, ◌≢◌, ℕ, zero, suc, ◌+◌, ◌-◌, ◌*◌, ◌/◌, ◌<◌, ◌≤◌, ◌==◌, ◌⊎◌, ◌&&◌, inl, inr, ◌∷◌, [], ◌++◌, Bool, true, false, nat_lt, cond, count_by, min, List, length, refl, sym, ap, subst, ◌∙◌, arith}
use Rattle.std.specs.Prelude.{Option, Some, None, All, find, option_map, sum_by}
use Rattle.std.specs.List.{list_any}
use Rattle.std.specs.Option.{option_or}
use Rattle.std.proofs.lemmas.Bool.{cases_lt, cases_Bool, cond-true, cond-false, lt-ltb, ltb-true, ltb-false, true≢false}
use Rattle.std.proofs.lemmas.List.Elements.{All-head, All-tail}
use Rattle.std.proofs.lemmas.List.Sums.{sum_by-cons}
use Rattle.std.proofs.Math.Nat.{mul-le-mul_right}
use Rattle.nvme_arbiter.specs.Settings.{ArbitrationFields, burst_of, weight_of, IsLevel}
use Rattle.nvme_arbiter.specs.declared.pick.Seen.{Seen}
use Rattle.nvme_arbiter.specs.declared.pick.Pick.{Pick}
use Rattle.nvme_arbiter.specs.declared.settings.Class.{Class}
use Rattle.nvme_arbiter.specs.declared.settings.Class.TheVariants.{Admin, Urgent, High, Medium, Low}
use Rattle.nvme_arbiter.specs.declared.settings.Mechanism.TheVariants.{RoundRobin, Weighted}
use Rattle.nvme_arbiter.specs.Observation.{is_class, IsObservation, ready_of, class_in}
use Rattle.nvme_arbiter.specs.Next.{next}
use Rattle.nvme_arbiter.specs.History.{Picked, History, settings_after, last_served_of, is_in_class, taken, used_in_round}
use Rattle.nvme_arbiter.specs.Rules.{admin_pick, credit, level_pick, levels_pick, take_from, urgent_pick, weighted_pick, within_burst}
use Rattle.nvme_arbiter.specs.Lawful.{IsLimitedPick, IsLimitedRun}
use Rattle.nvme_arbiter.specs.Laws.{IsRoundOver}
use Rattle.nvme_arbiter.specs.Service.{Turn, events_of, is_of_class, sees_ready_in, taken_in}
use Rattle.nvme_arbiter.proofs.Choices.{Choice, IsFrom, from_class, level_some, levels_some, limited_choice, next_nil, next_none, of_admin, of_level, of_urgent, or_some, same_class, take_from_none}
use Rattle.nvme_arbiter.proofs.PickLaws.{limited_over, limited_prefixes}
use Rattle.nvme_arbiter.proofs.RoundLaws.{used_within}
use Rattle.nvme_arbiter.proofs.ServiceLemmas.{IsNextOf, next_lawful}
use Rattle.nvme_arbiter.proofs.Stands.{from_in}
use Rattle.nvme_bounds.specs.Stretches.{IsAmong}
use Rattle.nvme_bounds.proofs.Ends.{past_quotient}

-- a level that goes behind another
abbrev pub Behind : Class → Class → Type 0
Behind Medium High = Unit {0}
Behind Low High = Unit {0}
Behind Low Medium = Unit {0}
Behind _ _ = ⊥

behind_level : (y x : Class) → Behind y x → IsLevel y
behind_level Medium High b = tt
behind_level Low High b = tt
behind_level Low Medium b = tt
behind_level _ _ b = absurd b

-- ---- one pick of a level
pub sees_some : (class : Class) (q : ℕ) (t : Turn) → sees_ready_in class q t ≡ true → ready_of class t.seen ≢ []
sees_some class q t w e = true≢false (sym w ∙ ap (list_any (λ s. s.qid == q)) e)

-- a level that is ready and isn't picked has no credit
no_credit : (s : ArbitrationFields) (last : Class → Option ℕ) (used : Class → ℕ) (seen : List Seen) (fresh : Bool) (level : Class) → level_pick s last used seen fresh level ≡ None → ready_of level seen ≢ [] → credit s used fresh level ≡ 0
no_credit s last used seen fresh level h r =
    let c = credit s used fresh level in
    let number : Seen → ℕ = λ q. min (within_burst (burst_of s) q.count) c in
    let some = take_from fresh number (next (last level) (ready_of level seen)) in
    elim (cases_Bool (nat_lt 0 c)) [
      | inl t ↦ absurd (r (next_none (last level) (ready_of level seen) (take_from_none fresh number (next (last level) (ready_of level seen)) (sym (cond-true (nat_lt 0 c) some None t) ∙ h))))
      | inr f ↦ (let z : c ≤ 0 = ltb-false 0 c f in omega arith)
    ]

-- the class of a pick of a level
class_of_level : (s : ArbitrationFields) (last : Class → Option ℕ) (used : Class → ℕ) (seen : List Seen) (fresh : Bool) (level : Class) (p : Pick) → IsObservation seen → IsLevel level → level_pick s last used seen fresh level ≡ Some p → class_in seen p.qid ≡ Some level
class_of_level s last used seen fresh level p o l h =
    from_in last seen level fresh (λ q. min (within_burst (burst_of s) q.count) (credit s used fresh level)) p o (level_some s last used seen fresh level p l h).from

not_both : {T : Type 0} (o : Option Class) (a b : Class) → o ≡ Some a → o ≡ Some b → (a ≡ b → ⊥) → T
not_both o a b x y n = let e : Some a ≡ Some b = sym x ∙ y in absurd (n cc)

-- where a level is picked, one before it isn't
none_before : (s : ArbitrationFields) (last : Class → Option ℕ) (used : Class → ℕ) (seen : List Seen) (fresh : Bool) (y x : Class) (p : Pick) → IsObservation seen → Behind y x → levels_pick s last used seen fresh ≡ Some p → class_in seen p.qid ≡ Some y → level_pick s last used seen fresh x ≡ None
none_before s last used seen fresh y x p o b h is = go y x b is
  where
    of_high : (y : Class) → class_in seen p.qid ≡ Some y → (y ≡ High → ⊥) → (level_pick s last used seen fresh High ≡ None) × (option_or (level_pick s last used seen fresh Medium) (level_pick s last used seen fresh Low) ≡ Some p)
    of_high y is n = elim (or_some (level_pick s last used seen fresh High) (option_or (level_pick s last used seen fresh Medium) (level_pick s last used seen fresh Low)) p h) [
      | inl e ↦ not_both (class_in seen p.qid) y High is (class_of_level s last used seen fresh High p o tt e) n
      | inr r ↦ r
    ]

    go : (y x : Class) → Behind y x → class_in seen p.qid ≡ Some y → level_pick s last used seen fresh x ≡ None
    go Medium High b is = (of_high Medium is (λ e. cc)).0
    go Low High b is = (of_high Low is (λ e. cc)).0
    go Low Medium b is = elim (or_some (level_pick s last used seen fresh Medium) (level_pick s last used seen fresh Low) p (of_high Low is (λ e. cc)).1) [
      | inl e ↦ not_both (class_in seen p.qid) Low Medium is (class_of_level s last used seen fresh Medium p o tt e) (λ e. cc)
      | inr r ↦ r.0
    ]
    go _ _ b is = absurd b

-- a pick of a level is one of a round that goes on, or of a new one
from_levels : (s : ArbitrationFields) (last : Class → Option ℕ) (used : Class → ℕ) (seen : List Seen) (y : Class) (p : Pick) → IsObservation seen → IsLevel y → weighted_pick s last used seen ≡ Some p → class_in seen p.qid ≡ Some y → (fresh : Bool) × (levels_pick s last used seen fresh ≡ Some p) × (p.fresh ≡ fresh)
from_levels s last used seen y p o l h is =
    elim (or_some (admin_pick s last used seen) (option_or (urgent_pick s last used seen) (option_or (levels_pick s last used seen false) (levels_pick s last used seen true))) p h) [
      | inl e ↦ not_both (class_in seen p.qid) Admin y (from_in last seen Admin false (λ q. 1) p o (from_class last seen Admin false (λ q. 1) p e)) is (λ a. subst IsLevel (sym a) l)
      | inr a ↦ elim (or_some (urgent_pick s last used seen) (option_or (levels_pick s last used seen false) (levels_pick s last used seen true)) p a.1) [
        | inl e ↦ not_both (class_in seen p.qid) Urgent y (from_in last seen Urgent false (λ q. within_burst (burst_of s) q.count) p o (from_class last seen Urgent false (λ q. within_burst (burst_of s) q.count) p e)) is (λ a. subst IsLevel (sym a) l)
        | inr u ↦ elim (or_some (levels_pick s last used seen false) (levels_pick s last used seen true) p u.1) [
          | inl e ↦ (false, e, (levels_some s last used seen false p e).1.from.taken_is.fresh_is)
          | inr e ↦ (true, e.1, (levels_some s last used seen true p e.1).1.from.taken_is.fresh_is)
        ]
      ]
    ]

weight_some : (s : ArbitrationFields) (level : Class) → IsLevel level → 0 < weight_of s level
weight_some s High l = omega arith
weight_some s Medium l = omega arith
weight_some s Low l = omega arith
weight_some s Admin l = absurd l
weight_some s Urgent l = absurd l

-- where a level behind another is picked that is ready, the round goes on, and the other one has used up its credit
spent_before : (s : ArbitrationFields) (last : Class → Option ℕ) (used : Class → ℕ) (seen : List Seen) (y x : Class) (p : Pick) → IsObservation seen → Behind y x → IsLevel x → ready_of x seen ≢ [] → weighted_pick s last used seen ≡ Some p → class_in seen p.qid ≡ Some y → (p.fresh ≡ false) × (weight_of s x ≤ used x)
spent_before s last used seen y x p o b l r h is = let f = from_levels s last used seen y p o (behind_level y x b) h is in go f.0 f.1 f.2
  where
    go : (fresh : Bool) → levels_pick s last used seen fresh ≡ Some p → p.fresh ≡ fresh → (p.fresh ≡ false) × (weight_of s x ≤ used x)
    go true e same =
        let none : weight_of s x ≡ 0 = no_credit s last used seen true x (none_before s last used seen true y x p o b e is) r in
        let some = weight_some s x l in
        absurd (omega (arith, none, some))
    go false e same =
        let none : weight_of s x - used x ≡ 0 = no_credit s last used seen false x (none_before s last used seen false y x p o b e is) r in
        (same, omega (arith, none))

-- ---- a stretch of picks
pub settings_stay : (first : ArbitrationFields) (past : History) (turns : List Turn) → settings_after first (events_of turns ++ past) ≡ settings_after first past
settings_stay first past [] = refl
settings_stay first past (t ∷ rest) = settings_stay first past rest

-- how many rounds begin in it, and what they renew of a weight
pub rounds_in : List Turn → ℕ
rounds_in [] = 0
rounds_in (t ∷ rest) = cond t.pick.fresh 1 0 + rounds_in rest

renewed : ℕ → List Turn → ℕ
renewed w [] = 0
renewed w (t ∷ rest) = cond t.pick.fresh w 0 + renewed w rest

renewed_is : (w : ℕ) (turns : List Turn) → renewed w turns ≡ rounds_in turns * w
unfolding renewed rounds_in
renewed_is w [] = omega arith
renewed_is w (t ∷ rest) = go t.pick.fresh (renewed_is w rest)
  where
    go : (b : Bool) → renewed w rest ≡ rounds_in rest * w → cond b w 0 + renewed w rest ≡ (cond b 1 0 + rounds_in rest) * w
    go true ih = omega (arith, ih)
    go false ih = omega (arith, ih)

class_is : (y : Class) (o : Option Class) → is_in_class y o ≡ true → o ≡ Some y
class_is y None h = absurd (true≢false (sym h))
class_is y (Some c) h = ap Some (sym (same_class y c h))

-- a round begins once the level that waits has used up its credit
fresh_spent : (first : ArbitrationFields) (past : History) (rest : List Turn) (t : Turn) (x : Class) (q : ℕ) → IsLimitedPick Weighted first (events_of rest ++ past) t.seen t.pick → IsLevel x → sees_ready_in x q t ≡ true → t.pick.fresh ≡ true → weight_of (settings_after first past) x ≤ used_in_round x (events_of rest ++ past)
fresh_spent first past rest t x q h l w fresh =
    subst (λ (s : ArbitrationFields). weight_of s x ≤ used_in_round x (events_of rest ++ past)) (settings_stay first past rest)
    ((limited_over first (events_of rest ++ past) t.seen t.pick h fresh).spent x l (sees_some x q t w))

used_few : (first : ArbitrationFields) (past : History) (rest : List Turn) (y : Class) → IsLimitedRun Weighted first (events_of rest ++ past) → IsLevel y → used_in_round y (events_of rest ++ past) ≤ weight_of (settings_after first past) y
used_few first past rest y h l =
    subst (λ (s : ArbitrationFields). used_in_round y (events_of rest ++ past) ≤ weight_of s y) (settings_stay first past rest) (used_within first (events_of rest ++ past) y h l)

-- the level that waits uses up what the rounds renew
keeps_pace : (first : ArbitrationFields) (past : History) (x : Class) (q : ℕ) (turns : List Turn) → IsLevel x → IsLimitedRun Weighted first (events_of turns ++ past) → All (λ t. sees_ready_in x q t ≡ true) turns
    → renewed (weight_of (settings_after first past) x) turns + used_in_round x (events_of turns ++ past) ≤ taken_in x turns + weight_of (settings_after first past) x
unfolding renewed
keeps_pace first past x q [] l h waits = let few = used_few first past [] x h l in omega (arith, few)
keeps_pace first past x q (t ∷ rest) l h waits = go (keeps_pace first past x q rest l h.2 (All-tail (λ (t : Turn). sees_ready_in x q t ≡ true) t rest waits)) t.pick.fresh refl
  where
    go : renewed (weight_of (settings_after first past) x) rest + used_in_round x (events_of rest ++ past) ≤ taken_in x rest + weight_of (settings_after first past) x
        → (b : Bool) → t.pick.fresh ≡ b → cond t.pick.fresh (weight_of (settings_after first past) x) 0 + renewed (weight_of (settings_after first past) x) rest + (taken x t.seen t.pick + cond t.pick.fresh 0 (used_in_round x (events_of rest ++ past))) ≤ taken x t.seen t.pick + taken_in x rest + weight_of (settings_after first past) x
    go ih true e =
        let spent = fresh_spent first past rest t x q h.1 l (All-head (λ (t : Turn). sees_ready_in x q t ≡ true) t rest waits) e in
        rw e (omega (arith, ih, spent))
    go ih false e = rw e (omega (arith, ih))

-- a level takes what was left of its credit, and what the rounds renew
within_rounds : (first : ArbitrationFields) (past : History) (y : Class) (turns : List Turn) → IsLevel y → IsLimitedRun Weighted first (events_of turns ++ past)
    → taken_in y turns ≤ renewed (weight_of (settings_after first past) y) turns + used_in_round y (events_of turns ++ past)
unfolding renewed
within_rounds first past y [] l h = omega arith
within_rounds first past y (t ∷ rest) l h = go (within_rounds first past y rest l h.2) t.pick.fresh refl
  where
    go : taken_in y rest ≤ renewed (weight_of (settings_after first past) y) rest + used_in_round y (events_of rest ++ past)
        → (b : Bool) → t.pick.fresh ≡ b → taken y t.seen t.pick + taken_in y rest ≤ cond t.pick.fresh (weight_of (settings_after first past) y) 0 + renewed (weight_of (settings_after first past) y) rest + (taken y t.seen t.pick + cond t.pick.fresh 0 (used_in_round y (events_of rest ++ past)))
    go ih true e = let few = used_few first past rest y h.2 l in rw e (omega (arith, ih, few))
    go ih false e = rw e (omega (arith, ih))

-- what is used of a level behind the one that waits: no round began, or nothing is used in this one, or the one that waits has used up its credit
pub data Late (rounds used most spent : ℕ) : Type 0 where
  no_round : rounds ≡ 0 → Late rounds used most spent
  unused : used ≡ 0 → Late rounds used most spent
  all_spent : most ≤ spent → Late rounds used most spent

pub stays_late : (first : ArbitrationFields) (past : History) (y x : Class) (q : ℕ) (turns : List Turn) → Behind y x → IsLevel x → IsLimitedRun Weighted first (events_of turns ++ past) → All (λ t. sees_ready_in x q t ≡ true) turns
    → Late (rounds_in turns) (used_in_round y (events_of turns ++ past)) (weight_of (settings_after first past) x) (used_in_round x (events_of turns ++ past))
unfolding rounds_in
stays_late first past y x q [] b l h waits = no_round refl
stays_late first past y x q (t ∷ rest) b l h waits =
    by (stays_late first past y x q rest b l h.2 (All-tail (λ (t : Turn). sees_ready_in x q t ≡ true) t rest waits)) (is_of_class y t) refl
  where
    on : Late (rounds_in rest) (used_in_round y (events_of rest ++ past)) (weight_of (settings_after first past) x) (used_in_round x (events_of rest ++ past)) → (m n : ℕ) → m ≡ 0
        → Late (0 + rounds_in rest) (m + used_in_round y (events_of rest ++ past)) (weight_of (settings_after first past) x) (n + used_in_round x (events_of rest ++ past))
    on (no_round e) m n z = no_round (omega (arith, e))
    on (unused e) m n z = unused (omega (arith, e, z))
    on (all_spent e) m n z = all_spent (omega (arith, e))

    other : Late (rounds_in rest) (used_in_round y (events_of rest ++ past)) (weight_of (settings_after first past) x) (used_in_round x (events_of rest ++ past)) → (f : Bool) → t.pick.fresh ≡ f → taken y t.seen t.pick ≡ 0
        → Late (cond t.pick.fresh 1 0 + rounds_in rest) (taken y t.seen t.pick + cond t.pick.fresh 0 (used_in_round y (events_of rest ++ past))) (weight_of (settings_after first past) x) (taken x t.seen t.pick + cond t.pick.fresh 0 (used_in_round x (events_of rest ++ past)))
    other ih true e z = unused (rw e (omega (arith, z)))
    other ih false e z = rw e (on ih (taken y t.seen t.pick) (taken x t.seen t.pick) z)

    by : Late (rounds_in rest) (used_in_round y (events_of rest ++ past)) (weight_of (settings_after first past) x) (used_in_round x (events_of rest ++ past)) → (o : Bool) → is_of_class y t ≡ o
        → Late (cond t.pick.fresh 1 0 + rounds_in rest) (taken y t.seen t.pick + cond t.pick.fresh 0 (used_in_round y (events_of rest ++ past))) (weight_of (settings_after first past) x) (taken x t.seen t.pick + cond t.pick.fresh 0 (used_in_round x (events_of rest ++ past)))
    by ih true e =
        let is : class_in t.seen h.1.whole.qid ≡ Some y = ap (class_in t.seen) (sym h.1.is_cut.qid) ∙ class_is y (class_in t.seen t.pick.qid) e in
        let s : ArbitrationFields = settings_after first (events_of rest ++ past) in
        let spent = spent_before s (λ c. last_served_of c (events_of rest ++ past)) (λ c. used_in_round c (events_of rest ++ past)) t.seen y x h.1.whole h.0 b l (sees_some x q t (All-head (λ (t : Turn). sees_ready_in x q t ≡ true) t rest waits)) h.1.lawful is in
        let fresh : t.pick.fresh ≡ false = h.1.is_cut.fresh ∙ spent.0 in
        let most : weight_of (settings_after first past) x ≤ used_in_round x (events_of rest ++ past) = subst (λ (s : ArbitrationFields). weight_of s x ≤ used_in_round x (events_of rest ++ past)) (settings_stay first past rest) spent.1 in
        all_spent (rw fresh (omega (arith, most)))
    by ih false e = other ih t.pick.fresh refl (cond-false (is_of_class y t) t.pick.n 0 e)

-- ---- in numbers of rounds
-- no more rounds begin than credits are used up, and one
rounds_few : (rounds commands w : ℕ) → 0 < w → rounds * w ≤ commands + w → rounds ≤ commands / w + 1
rounds_few rounds commands w some few = elim (cases_lt (commands / w + 1) rounds) [
  | inl l ↦ (
      let many : (commands / w + 2) * w ≤ rounds * w = mul-le-mul_right w (omega (arith, l)) in
      let past = past_quotient commands w some in
      absurd (omega (arith, many, past, few)))
  | inr g ↦ g
]

-- where the level that waits takes so many commands at most
pub record Pace (x : Class) (s : ArbitrationFields) (commands : ℕ) (turns : List Turn) (spent : ℕ) : Type 0 where
  pub keeps : rounds_in turns * weight_of s x + spent ≤ taken_in x turns + weight_of s x
  pub takes : taken_in x turns ≤ commands
  pub some : 0 < weight_of s x

pub before_it : (first : ArbitrationFields) (past : History) (y x : Class) (turns : List Turn) (commands spent : ℕ) → IsLevel y → IsLimitedRun Weighted first (events_of turns ++ past) → Pace x (settings_after first past) commands turns spent
    → taken_in y turns ≤ (commands / weight_of (settings_after first past) x + 1) * weight_of (settings_after first past) y + weight_of (settings_after first past) y
before_it first past y x turns commands spent l h pace =
    let wx = weight_of (settings_after first past) x in
    let wy = weight_of (settings_after first past) y in
    let within = within_rounds first past y turns l h in
    let is = renewed_is wy turns in
    let used = used_few first past turns y h l in
    let few : rounds_in turns ≤ commands / wx + 1 = rounds_few (rounds_in turns) commands wx pace.some (omega (arith, pace.keeps, pace.takes)) in
    let more : rounds_in turns * wy ≤ (commands / wx + 1) * wy = mul-le-mul_right wy few in
    omega (arith, within, is, used, more)

pub behind_it : (first : ArbitrationFields) (past : History) (y x : Class) (turns : List Turn) (commands : ℕ) → IsLevel y → IsLimitedRun Weighted first (events_of turns ++ past) → Pace x (settings_after first past) commands turns (used_in_round x (events_of turns ++ past))
    → Late (rounds_in turns) (used_in_round y (events_of turns ++ past)) (weight_of (settings_after first past) x) (used_in_round x (events_of turns ++ past))
    → taken_in y turns ≤ (commands / weight_of (settings_after first past) x + 1) * weight_of (settings_after first past) y
behind_it first past y x turns commands l h pace late = go late
  where
    few : rounds_in turns ≤ commands / weight_of (settings_after first past) x + 1
    few = rounds_few (rounds_in turns) commands (weight_of (settings_after first past) x) pace.some (omega (arith, pace.keeps, pace.takes))

    within : taken_in y turns ≤ rounds_in turns * weight_of (settings_after first past) y + used_in_round y (events_of turns ++ past)
    within = let w = within_rounds first past y turns l h in let is = renewed_is (weight_of (settings_after first past) y) turns in omega (arith, w, is)

    go : Late (rounds_in turns) (used_in_round y (events_of turns ++ past)) (weight_of (settings_after first past) x) (used_in_round x (events_of turns ++ past))
        → taken_in y turns ≤ (commands / weight_of (settings_after first past) x + 1) * weight_of (settings_after first past) y
    go (no_round e) =
        let wy = weight_of (settings_after first past) y in
        let used = used_few first past turns y h l in
        let none : rounds_in turns * wy ≡ 0 * wy = ap (λ (n : ℕ). n * wy) e in
        let once : 1 * wy ≤ (commands / weight_of (settings_after first past) x + 1) * wy = mul-le-mul_right wy (omega arith) in
        omega (arith, within, used, none, once)
    go (unused e) =
        let more : rounds_in turns * weight_of (settings_after first past) y ≤ (commands / weight_of (settings_after first past) x + 1) * weight_of (settings_after first past) y = mul-le-mul_right (weight_of (settings_after first past) y) few in
        omega (arith, within, e, more)
    go (all_spent e) =
        let wx = weight_of (settings_after first past) x in
        let wy = weight_of (settings_after first past) y in
        let used = used_few first past turns y h l in
        let fewer : rounds_in turns + 1 ≤ commands / wx + 1 = rounds_few (rounds_in turns + 1) commands wx pace.some (omega (arith, pace.keeps, pace.takes, e)) in
        let more : (rounds_in turns + 1) * wy ≤ (commands / wx + 1) * wy = mul-le-mul_right wy fewer in
        omega (arith, within, used, more)

pub pace_of : (first : ArbitrationFields) (past : History) (x : Class) (q : ℕ) (turns : List Turn) (commands : ℕ) → IsLevel x → IsLimitedRun Weighted first (events_of turns ++ past) → All (λ t. sees_ready_in x q t ≡ true) turns → taken_in x turns ≤ commands
    → Pace x (settings_after first past) commands turns (used_in_round x (events_of turns ++ past))
pace_of first past x q turns commands l h waits few =
    let keeps = keeps_pace first past x q turns l h waits in
    let is = renewed_is (weight_of (settings_after first past) x) turns in
    record { keeps = omega (arith, keeps, is); takes = few; some = weight_some (settings_after first past) x l }
