-- How many commands all picks take.
use Rattle.std.proofs.Common.{◌≡◌, ◌≢◌, ℕ, zero, suc, ◌+◌, ◌-◌, ◌*◌, ◌/◌, ◌<◌, ◌≤◌, ◌==◌, ◌⊎◌, ◌&&◌, inl, inr, ◌∷◌, [], ◌++◌, Bool, true, false, nat_lt, cond, count_by, min, List, length, refl, sym, ap, subst, le_trans, mul-add, ◌∙◌, arith}
use Rattle.std.specs.Prelude.{Option, Some, None, All, find, option_map, sum_by}
use Rattle.std.specs.List.{list_any}
use Rattle.std.specs.Option.{option_or}
use Rattle.std.proofs.lemmas.Bool.{cases_lt, cases_eq, cases_Bool, cond-true, cond-false, eqb-true, eq-eqb, ne_eqb, true≢false}
use Rattle.std.proofs.lemmas.List.Elements.{All-head, All-tail, All-nil, All-cons}
use Rattle.std.proofs.lemmas.List.Sums.{sum_by-cons, sum_by-le}
use Rattle.std.proofs.Math.Nat.{mul-le-mul_right}
use Rattle.nvme_arbiter.specs.Settings.{ArbitrationFields, burst_of, weight_of, IsLevel}
use Rattle.nvme_arbiter.specs.declared.pick.Seen.{Seen}
use Rattle.nvme_arbiter.specs.declared.pick.Pick.{Pick}
use Rattle.nvme_arbiter.specs.declared.settings.Class.{Class}
use Rattle.nvme_arbiter.specs.declared.settings.Class.TheVariants.{Admin, Urgent, High, Medium, Low}
use Rattle.nvme_arbiter.specs.declared.settings.Mechanism.{Mechanism}
use Rattle.nvme_arbiter.specs.declared.settings.Mechanism.TheVariants.{RoundRobin, Weighted}
use Rattle.nvme_arbiter.specs.Observation.{is_class, IsObservation, ready_of, class_in}
use Rattle.nvme_arbiter.specs.Next.{next}
use Rattle.nvme_arbiter.specs.History.{Picked, History, settings_after, last_served_of, is_in_class, taken, used_in_round}
use Rattle.nvme_arbiter.specs.Rules.{admin_pick, credit, levels_pick, take_from, urgent_pick, weighted_pick, within_burst}
use Rattle.nvme_arbiter.specs.Lawful.{IsLimitedPick, IsLimitedRun}
use Rattle.nvme_arbiter.specs.Laws.{IsMeasured}
use Rattle.nvme_arbiter.specs.Service.{Turn, events_of, is_of_class, sees_ready_in, taken_in}
use Rattle.nvme_arbiter.proofs.Choices.{Choice, IsFrom, class_itself, from_class, limited_choice, next_nil, next_none, of_admin, of_level, of_urgent, or_some, same_class, take_from_none}
use Rattle.nvme_arbiter.proofs.PickLaws.{limited_are_measured}
use Rattle.nvme_arbiter.proofs.ServiceLemmas.{IsNextOf, next_lawful}
use Rattle.nvme_arbiter.proofs.Stands.{from_in}
use Rattle.nvme_bounds.specs.Before.{above, all_of, before_level, before_urgent, before_weighted, below, most_before, own, rounds, share}
use Rattle.nvme_bounds.specs.Laws.{FewComeBefore}
use Rattle.nvme_bounds.specs.Stretches.{IsAmong, Waits, commands_of, counts}
use Rattle.nvme_bounds.proofs.Levels.{Behind, Late, Pace, before_it, behind_it, pace_of, sees_some, settings_stay, stays_late}
use Rattle.nvme_bounds.proofs.Picks.{all_ids, all_length, class_few, count_more, one, round_robin_few}

-- ---- how many a pick takes
each_within : (burst : Option ℕ) (n most : ℕ) → n ≤ most → ((b : ℕ) → burst ≡ Some b → n ≤ b) → n ≤ within_burst burst most
each_within None n most few f = few
each_within (Some b) n most few f = let short = f b refl in omega (arith, few, short)

pub all_within : (m : Mechanism) (first : ArbitrationFields) (past : History) (most : ℕ) (turns : List Turn) → IsLimitedRun m first (events_of turns ++ past) → All (λ t. t.pick.n ≤ most) turns → All (λ t. t.pick.n ≤ within_burst (burst_of (settings_after first past)) most) turns
all_within m first past most [] h few = All-nil (λ (t : Turn). t.pick.n ≤ within_burst (burst_of (settings_after first past)) most)
all_within m first past most (t ∷ rest) h few =
    let s = settings_after first past in
    let is = limited_are_measured m first (events_of rest ++ past) t.seen t.pick h.0 h.1 in
    let here : t.pick.n ≤ within_burst (burst_of (settings_after first past)) most =
    each_within (burst_of s) t.pick.n most (All-head (λ (t : Turn). t.pick.n ≤ most) t rest few) (λ b e. is.within_burst b (ap burst_of (settings_stay first past rest) ∙ e)) in
    All-cons (λ (t : Turn). t.pick.n ≤ within_burst (burst_of (settings_after first past)) most) t rest here (all_within m first past most rest h.2 (All-tail (λ (t : Turn). t.pick.n ≤ most) t rest few))

-- the class of a queue that was found
class_found : (x : Class) (o : Option Seen) (q : Seen) → o ≡ Some q → is_in_class x (option_map (λ s. s.class) o) ≡ true → x ≡ q.class
class_found x None q e h = absurd cc
class_found x (Some s) q e h = let same : s ≡ q = cc in same_class x s.class h ∙ ap (λ (s : Seen). s.class) same

one_more : (n taken count counted each : ℕ) → n ≤ each → taken ≤ count * each → counted ≡ 1 + count → n + taken ≤ counted * each
one_more n taken count counted each few ih is = subst (λ (m : ℕ). n + taken ≤ m * each) (sym is) (omega (arith, few, ih))

no_more : (taken count counted each : ℕ) → taken ≤ count * each → counted ≡ 0 + count → 0 + taken ≤ counted * each
no_more taken count counted each ih is = subst (λ (m : ℕ). 0 + taken ≤ m * each) (sym is) (omega (arith, ih))

-- what is taken of a level
taken_few : (first : ArbitrationFields) (past : History) (x : Class) (each : ℕ) (turns : List Turn) → IsLevel x → IsLimitedRun Weighted first (events_of turns ++ past) → All (λ t. t.pick.n ≤ each) turns
    → taken_in x turns ≤ count_by (is_of_class x) turns * min each (weight_of (settings_after first past) x)
unfolding one
taken_few first past x each [] l h few = omega arith
taken_few first past x each (t ∷ rest) l h few =
    go (taken_few first past x each rest l h.2 (All-tail (λ (t : Turn). t.pick.n ≤ each) t rest few)) (is_of_class x t) refl
  where
    go : taken_in x rest ≤ count_by (is_of_class x) rest * min each (weight_of (settings_after first past) x) → (o : Bool) → is_of_class x t ≡ o
        → cond (is_of_class x t) t.pick.n 0 + taken_in x rest ≤ count_by (is_of_class x) (t ∷ rest) * min each (weight_of (settings_after first past) x)
    go ih true e =
        let is = limited_are_measured Weighted first (events_of rest ++ past) t.seen t.pick h.0 h.1 in
        let same : x ≡ is.queue.class = class_found x (find (λ s. s.qid == t.pick.qid) t.seen) is.queue is.was_seen e in
        let in_weight = is.within_weight refl (subst IsLevel same l) in
        let weight : t.pick.n ≤ weight_of (settings_after first past) x = subst (λ (c : Class). t.pick.n ≤ weight_of (settings_after first past) c) (sym same)
        (subst (λ (s : ArbitrationFields). t.pick.n ≤ weight_of s is.queue.class) (settings_stay first past rest) in_weight) in
        let small = All-head (λ (t : Turn). t.pick.n ≤ each) t rest few in
        let all_few = one_more t.pick.n (taken_in x rest) (count_by (is_of_class x) rest) (count_by (is_of_class x) (t ∷ rest)) (min each (weight_of (settings_after first past) x)) (omega (arith, weight, small)) ih (count_more (is_of_class x) t rest ∙ ap (λ (n : ℕ). n + count_by (is_of_class x) rest) (ap one e)) in
        subst (λ (n : ℕ). n + taken_in x rest ≤ count_by (is_of_class x) (t ∷ rest) * min each (weight_of (settings_after first past) x)) (sym (cond-true (is_of_class x t) t.pick.n 0 e)) all_few
    go ih false e =
        let rest_few = no_more (taken_in x rest) (count_by (is_of_class x) rest) (count_by (is_of_class x) (t ∷ rest)) (min each (weight_of (settings_after first past) x)) ih (count_more (is_of_class x) t rest ∙ ap (λ (n : ℕ). n + count_by (is_of_class x) rest) (ap one e)) in
        subst (λ (n : ℕ). n + taken_in x rest ≤ count_by (is_of_class x) (t ∷ rest) * min each (weight_of (settings_after first past) x)) (sym (cond-false (is_of_class x t) t.pick.n 0 e)) rest_few

-- ---- classes without a queue
no_member : (ids : List ℕ) (xs : List Seen) → ids ≡ [] → All (λ s. list_any (λ i. s.qid == i) ids ≡ true) xs → xs ≡ []
no_member ids [] e a = refl
no_member ids (x ∷ xs) e a = absurd (true≢false (sym (All-head (λ s. list_any (λ i. s.qid == i) ids ≡ true) x xs a) ∙ ap (list_any (λ i. x.qid == i)) e))

nothing_next : (last : Option ℕ) (xs : List Seen) (q : Seen) → xs ≡ [] → next last xs ≡ Some q → ⊥
nothing_next last xs q e h = let none : None ≡ Some q = sym (next_nil last) ∙ (sym (ap (next last) e) ∙ h) in absurd (cc)

none_taken : (first : ArbitrationFields) (past : History) (ids : Class → List ℕ) (y : Class) (turns : List Turn) → ids y ≡ [] → IsLimitedRun Weighted first (events_of turns ++ past) → All (λ t. IsAmong ids t.seen) turns → taken_in y turns ≡ 0
none_taken first past ids y [] z h among = refl
none_taken first past ids y (t ∷ rest) z h among =
    let ih = none_taken first past ids y rest z h.2 (All-tail (λ (t : Turn). IsAmong ids t.seen) t rest among) in
    elim (cases_Bool (is_of_class y t)) [
      | inl e ↦ (
          let p = next_lawful first (events_of rest ++ past) y t h.0 h.1 e in
          absurd (nothing_next (last_served_of y (events_of rest ++ past)) (ready_of y t.seen) p.queue (no_member (ids y) (ready_of y t.seen) z (All-head (λ (t : Turn). IsAmong ids t.seen) t rest among y)) p.next_is))
      | inr f ↦ omega (arith, ih, cond-false (is_of_class y t) t.pick.n 0 f)
    ]

no_ids : {T : Type 0} (xs : List T) → length xs ≡ 0 → xs ≡ []
no_ids [] h = refl
no_ids (x ∷ xs) h = absurd (omega (arith, h))

-- ---- the pick where no admin queue, or no urgent one, is ready
-- a level is picked where neither is ready
level_picked : (s : ArbitrationFields) (last : Class → Option ℕ) (used : Class → ℕ) (seen : List Seen) (p : Pick) → IsObservation seen → ready_of Admin seen ≡ [] → ready_of Urgent seen ≡ [] → Choice s last used seen p → (level : Class) × IsLevel level × (class_in seen p.qid ≡ Some level)
level_picked s last used seen p o a u (of_admin f) = absurd (nothing_next (last Admin) (ready_of Admin seen) f.queue a f.next_is)
level_picked s last used seen p o a u (of_urgent f) = absurd (nothing_next (last Urgent) (ready_of Urgent seen) f.queue u f.next_is)
level_picked s last used seen p o a u (of_level fresh level f) =
    (level, f.level_is, from_in last seen level fresh (λ q. min (within_burst (burst_of s) q.count) (credit s used fresh level)) p o f.from)

in_parts : (o : Option Class) (level : Class) (n : ℕ) → IsLevel level → o ≡ Some level → n ≡ cond (is_in_class High o) n 0 + cond (is_in_class Medium o) n 0 + cond (is_in_class Low o) n 0
in_parts o High n l e = rw e (omega arith)
in_parts o Medium n l e = rw e (omega arith)
in_parts o Low n l e = rw e (omega arith)
in_parts o Admin n l e = absurd l
in_parts o Urgent n l e = absurd l

of_levels : (first : ArbitrationFields) (past : History) (ids : Class → List ℕ) (turns : List Turn) → ids Admin ≡ [] → ids Urgent ≡ [] → IsLimitedRun Weighted first (events_of turns ++ past) → All (λ t. IsAmong ids t.seen) turns
    → commands_of turns ≡ taken_in High turns + taken_in Medium turns + taken_in Low turns
of_levels first past ids [] a u h among = refl
of_levels first past ids (t ∷ rest) a u h among =
    let ih = of_levels first past ids rest a u h.2 (All-tail (λ (t : Turn). IsAmong ids t.seen) t rest among) in
    let before : History = events_of rest ++ past in
    let here = All-head (λ (t : Turn). IsAmong ids t.seen) t rest among in
    let is = level_picked (settings_after first before) (λ c. last_served_of c before) (λ c. used_in_round c before) t.seen t.pick h.0 (no_member (ids Admin) (ready_of Admin t.seen) a (here Admin)) (no_member (ids Urgent) (ready_of Urgent t.seen) u (here Urgent)) (limited_choice first before t.seen t.pick h.1) in
    let parts = in_parts (class_in t.seen t.pick.qid) is.0 t.pick.n is.1 is.2 in
    omega (arith, ih, parts, sum_by-cons (λ (t : Turn). t.pick.n) t rest)

-- an urgent queue is picked where one is ready and no admin queue is
urgent_picked : (s : ArbitrationFields) (last : Class → Option ℕ) (used : Class → ℕ) (seen : List Seen) (p : Pick) → IsObservation seen → ready_of Admin seen ≡ [] → ready_of Urgent seen ≢ [] → weighted_pick s last used seen ≡ Some p → class_in seen p.qid ≡ Some Urgent
urgent_picked s last used seen p o a u h =
    elim (or_some (admin_pick s last used seen) (option_or (urgent_pick s last used seen) (option_or (levels_pick s last used seen false) (levels_pick s last used seen true))) p h) [
      | inl e ↦ (let f = from_class last seen Admin false (λ q. 1) p e in absurd (nothing_next (last Admin) (ready_of Admin seen) f.queue a f.next_is))
      | inr r ↦ elim (or_some (urgent_pick s last used seen) (option_or (levels_pick s last used seen false) (levels_pick s last used seen true)) p r.1) [
        | inl e ↦ (let number : Seen → ℕ = λ q. within_burst (burst_of s) q.count in from_in last seen Urgent false number p o (from_class last seen Urgent false number p e))
        | inr n ↦ absurd (u (next_none (last Urgent) (ready_of Urgent seen) (take_from_none false (λ q. within_burst (burst_of s) q.count) (next (last Urgent) (ready_of Urgent seen)) n.0)))
      ]
    ]

all_urgent : (first : ArbitrationFields) (past : History) (ids : Class → List ℕ) (q : ℕ) (turns : List Turn) → ids Admin ≡ [] → IsLimitedRun Weighted first (events_of turns ++ past) → All (λ t. IsAmong ids t.seen) turns → All (λ t. sees_ready_in Urgent q t ≡ true) turns
    → length turns ≡ count_by (is_of_class Urgent) turns
unfolding one
all_urgent first past ids q [] a h among waits = refl
all_urgent first past ids q (t ∷ rest) a h among waits =
    let ih = all_urgent first past ids q rest a h.2 (All-tail (λ (t : Turn). IsAmong ids t.seen) t rest among) (All-tail (λ (t : Turn). sees_ready_in Urgent q t ≡ true) t rest waits) in
    let before : History = events_of rest ++ past in
    let s : ArbitrationFields = settings_after first before in
    let none = no_member (ids Admin) (ready_of Admin t.seen) a (All-head (λ (t : Turn). IsAmong ids t.seen) t rest among Admin) in
    let some = sees_some Urgent q t (All-head (λ (t : Turn). sees_ready_in Urgent q t ≡ true) t rest waits) in
    let is = urgent_picked s (λ c. last_served_of c before) (λ c. used_in_round c before) t.seen h.1.whole h.0 none some h.1.lawful in
    let of : is_of_class Urgent t ≡ true = ap (λ (n : ℕ). is_in_class Urgent (class_in t.seen n)) h.1.is_cut.qid ∙ ap (is_in_class Urgent) is in
    omega (arith, ih, ap one of, count_more (is_of_class Urgent) t rest)

-- ---- the bounds
no_queue : (ids : Class → List ℕ) (class : Class) → (counts ids class == 0) ≡ true → ids class ≡ []
no_queue ids class e = no_ids (ids class) (eqb-true (length (ids class)) 0 e)

pub few_of_round_robin : (first : ArbitrationFields) (past : History) (ids : Class → List ℕ) (most : ℕ) (class : Class) (qid : ℕ) (turns : List Turn) → Waits RoundRobin first past ids most class qid turns
    → commands_of turns ≤ own (all_of (counts ids)) (within_burst (burst_of (settings_after first past)) most)
few_of_round_robin first past ids most class qid turns w =
    let each = within_burst (burst_of (settings_after first past)) most in
    let few = round_robin_few first past ids class qid turns w.lawful w.among w.waits w.passed in
    let all = sum_by-le (λ (t : Turn). t.pick.n) each turns (all_within RoundRobin first past most turns w.lawful w.few) in
    let fewer : length turns ≤ all_of (counts ids) - 1 = omega (arith, few, all_length ids) in
    let more : length turns * each ≤ (all_of (counts ids) - 1) * each = mul-le-mul_right each fewer in
    omega (arith, all, more)

few_of_urgent : (first : ArbitrationFields) (past : History) (ids : Class → List ℕ) (most qid : ℕ) (turns : List Turn) → ids Admin ≡ [] → Waits Weighted first past ids most Urgent qid turns
    → commands_of turns ≤ own (counts ids Urgent) (within_burst (burst_of (settings_after first past)) most)
few_of_urgent first past ids most qid turns a w =
    let each = within_burst (burst_of (settings_after first past)) most in
    let few = class_few first past ids Urgent qid turns w.lawful w.among w.waits w.passed in
    let all = sum_by-le (λ (t : Turn). t.pick.n) each turns (all_within Weighted first past most turns w.lawful w.few) in
    let are = all_urgent first past ids qid turns a w.lawful w.among w.waits in
    let fewer : length turns ≤ counts ids Urgent - 1 = omega (arith, few, are) in
    let more : length turns * each ≤ (counts ids Urgent - 1) * each = mul-le-mul_right each fewer in
    omega (arith, all, more)

-- of a level, where the one that waits takes so many commands
module _ (first : ArbitrationFields) (past : History) (ids : Class → List ℕ) (x : Class) (qid : ℕ) (turns : List Turn) (commands : ℕ)
    (l : IsLevel x) (h : IsLimitedRun Weighted first (events_of turns ++ past)) (among : All (λ t. IsAmong ids t.seen) turns) (waits : All (λ t. sees_ready_in x qid t ≡ true) turns) (few : taken_in x turns ≤ commands) where
  pace : Pace x (settings_after first past) commands turns (used_in_round x (events_of turns ++ past))
  pace = pace_of first past x qid turns commands l h waits few

  share_before : (y : Class) → IsLevel y → taken_in y turns ≤ rounds commands (weight_of (settings_after first past) x) * share (settings_after first past) (counts ids) y + share (settings_after first past) (counts ids) y
  share_before y ly = go (counts ids y == 0) refl
    where
      go : (b : Bool) → (counts ids y == 0) ≡ b → taken_in y turns ≤ rounds commands (weight_of (settings_after first past) x) * (cond (counts ids y == 0) 0 (weight_of (settings_after first past) y)) + cond (counts ids y == 0) 0 (weight_of (settings_after first past) y)
      go true e = let none = none_taken first past ids y turns (no_queue ids y e) h among in rw e (omega (arith, none))
      go false e = let most = before_it first past y x turns commands (used_in_round x (events_of turns ++ past)) ly h pace in rw e most

  share_behind : (y : Class) → IsLevel y → Behind y x → taken_in y turns ≤ rounds commands (weight_of (settings_after first past) x) * share (settings_after first past) (counts ids) y
  share_behind y ly b = go (counts ids y == 0) refl
    where
      go : (b : Bool) → (counts ids y == 0) ≡ b → taken_in y turns ≤ rounds commands (weight_of (settings_after first past) x) * (cond (counts ids y == 0) 0 (weight_of (settings_after first past) y))
      go true e = let none = none_taken first past ids y turns (no_queue ids y e) h among in rw e (omega (arith, none))
      go false e = let most = behind_it first past y x turns commands ly h pace (stays_late first past y x qid turns b l h waits) in rw e most

-- what a level that waits is picked of itself, at most
own_few : (first : ArbitrationFields) (past : History) (ids : Class → List ℕ) (x : Class) (qid most : ℕ) (turns : List Turn) → IsLevel x → Waits Weighted first past ids most x qid turns
    → taken_in x turns ≤ own (counts ids x) (min (within_burst (burst_of (settings_after first past)) most) (weight_of (settings_after first past) x))
own_few first past ids x qid most turns l w =
    let each = within_burst (burst_of (settings_after first past)) most in
    let some = taken_few first past x each turns l w.lawful (all_within Weighted first past most turns w.lawful w.few) in
    let fewer = class_few first past ids x qid turns w.lawful w.among w.waits w.passed in
    let more = mul-le-mul_right (min each (weight_of (settings_after first past) x)) fewer in
    le_trans some more

-- sums of products
low_parts : (rounds first a b high medium low : ℕ) → high ≤ rounds * a + a → medium ≤ rounds * b + b → low ≤ first → high + medium + low ≤ first + rounds * (a + b + 0) + (a + b)
low_parts rounds first a b high medium low h m l = let e : rounds * (a + b) ≡ rounds * a + rounds * b = mul-add rounds a b in let z : rounds * (a + b + 0) ≡ rounds * (a + b) = ap (λ (n : ℕ). rounds * n) (omega arith) in omega (arith, h, m, l, e, z)

medium_parts : (rounds first a b high medium low : ℕ) → high ≤ rounds * a + a → medium ≤ first → low ≤ rounds * b → high + medium + low ≤ first + rounds * (a + b) + a
medium_parts rounds first a b high medium low h m l = let e : rounds * (a + b) ≡ rounds * a + rounds * b = mul-add rounds a b in omega (arith, h, m, l, e)

high_parts : (rounds first a b high medium low : ℕ) → high ≤ first → medium ≤ rounds * a → low ≤ rounds * b → high + medium + low ≤ first + rounds * (0 + (a + b)) + 0
high_parts rounds first a b high medium low h m l = let e : rounds * (a + b) ≡ rounds * a + rounds * b = mul-add rounds a b in let z : rounds * (0 + (a + b)) ≡ rounds * (a + b) = ap (λ (n : ℕ). rounds * n) (omega arith) in omega (arith, h, m, l, e, z)

few_of_level : (first : ArbitrationFields) (past : History) (ids : Class → List ℕ) (x : Class) (qid most : ℕ) (turns : List Turn) → IsLevel x → ids Admin ≡ [] → ids Urgent ≡ [] → Waits Weighted first past ids most x qid turns
    → commands_of turns ≤ before_level (settings_after first past) (counts ids) (within_burst (burst_of (settings_after first past)) most) x
few_of_level first past ids Low qid most turns l a u w =
    let s = settings_after first past in
    let each = within_burst (burst_of s) most in
    let few = own_few first past ids Low qid most turns l w in
    let own_ones = own (counts ids Low) (min each (weight_of s Low)) in
    let high = share_before first past ids Low qid turns own_ones l w.lawful w.among w.waits few High tt in
    let medium = share_before first past ids Low qid turns own_ones l w.lawful w.among w.waits few Medium tt in
    let parts = low_parts (rounds own_ones (weight_of s Low)) own_ones (share s (counts ids) High) (share s (counts ids) Medium) (taken_in High turns) (taken_in Medium turns) (taken_in Low turns) high medium few in
    let all = of_levels first past ids turns a u w.lawful w.among in
    subst (λ (n : ℕ). n ≤ before_level s (counts ids) each Low) (sym all) parts
few_of_level first past ids Medium qid most turns l a u w =
    let s = settings_after first past in
    let each = within_burst (burst_of s) most in
    let few = own_few first past ids Medium qid most turns l w in
    let own_ones = own (counts ids Medium) (min each (weight_of s Medium)) in
    let high = share_before first past ids Medium qid turns own_ones l w.lawful w.among w.waits few High tt in
    let low = share_behind first past ids Medium qid turns own_ones l w.lawful w.among w.waits few Low tt tt in
    let parts = medium_parts (rounds own_ones (weight_of s Medium)) own_ones (share s (counts ids) High) (share s (counts ids) Low) (taken_in High turns) (taken_in Medium turns) (taken_in Low turns) high few low in
    let all = of_levels first past ids turns a u w.lawful w.among in
    subst (λ (n : ℕ). n ≤ before_level s (counts ids) each Medium) (sym all) parts
few_of_level first past ids High qid most turns l a u w =
    let s = settings_after first past in
    let each = within_burst (burst_of s) most in
    let few = own_few first past ids High qid most turns l w in
    let own_ones = own (counts ids High) (min each (weight_of s High)) in
    let medium = share_behind first past ids High qid turns own_ones l w.lawful w.among w.waits few Medium tt tt in
    let low = share_behind first past ids High qid turns own_ones l w.lawful w.among w.waits few Low tt tt in
    let parts = high_parts (rounds own_ones (weight_of s High)) own_ones (share s (counts ids) Medium) (share s (counts ids) Low) (taken_in High turns) (taken_in Medium turns) (taken_in Low turns) few medium low in
    let all = of_levels first past ids turns a u w.lawful w.among in
    subst (λ (n : ℕ). n ≤ before_level s (counts ids) each High) (sym all) parts
few_of_level first past ids Admin qid most turns l a u w = absurd l
few_of_level first past ids Urgent qid most turns l a u w = absurd l

-- ---- where there is a bound
bound_of_urgent : (ids : Class → List ℕ) (each bound : ℕ) → before_urgent (counts ids) each ≡ Some bound → (ids Admin ≡ []) × (own (counts ids Urgent) each ≡ bound)
bound_of_urgent ids each bound h = elim (cases_Bool (counts ids Admin == 0)) [
  | inl t ↦ (let e : Some (own (counts ids Urgent) each) ≡ Some bound = sym (cond-true (counts ids Admin == 0) (Some (own (counts ids Urgent) each)) None t) ∙ h in (no_queue ids Admin t, cc))
  | inr f ↦ (let e : None ≡ Some bound = sym (cond-false (counts ids Admin == 0) (Some (own (counts ids Urgent) each)) None f) ∙ h in absurd (cc))
]

bound_of_level : (s : ArbitrationFields) (ids : Class → List ℕ) (each : ℕ) (x : Class) (bound : ℕ) → before_weighted s (counts ids) each x ≡ Some bound → (ids Admin ≡ []) × (ids Urgent ≡ []) × (before_level s (counts ids) each x ≡ bound)
bound_of_level s ids each x bound h =
    let some = Some (before_level s (counts ids) each x) in
    let inner = cond (counts ids Urgent == 0) some None in
    elim (cases_Bool (counts ids Admin == 0)) [
      | inl t ↦ (
          let h' : cond (counts ids Urgent == 0) some None ≡ Some bound = sym (cond-true (counts ids Admin == 0) inner None t) ∙ h in
          elim (cases_Bool (counts ids Urgent == 0)) [
            | inl u ↦ (let e : Some (before_level s (counts ids) each x) ≡ Some bound = sym (cond-true (counts ids Urgent == 0) some None u) ∙ h' in (no_queue ids Admin t, no_queue ids Urgent u, cc))
            | inr f ↦ (let e : None ≡ Some bound = sym (cond-false (counts ids Urgent == 0) some None f) ∙ h' in absurd (cc))
          ])
      | inr f ↦ (let e : None ≡ Some bound = sym (cond-false (counts ids Admin == 0) inner None f) ∙ h in absurd (cc))
    ]

level_few : (first : ArbitrationFields) (past : History) (ids : Class → List ℕ) (most : ℕ) (x : Class) (qid : ℕ) (turns : List Turn) → IsLevel x → Waits Weighted first past ids most x qid turns → (bound : ℕ)
    → before_weighted (settings_after first past) (counts ids) (within_burst (burst_of (settings_after first past)) most) x ≡ Some bound → commands_of turns ≤ bound
level_few first past ids most x qid turns l w bound h =
    let b = bound_of_level (settings_after first past) ids (within_burst (burst_of (settings_after first past)) most) x bound h in
    subst (λ (n : ℕ). commands_of turns ≤ n) b.2 (few_of_level first past ids x qid most turns l b.0 b.1 w)

pub few_come_before : FewComeBefore
few_come_before RoundRobin first past ids most class qid turns w bound h =
    let e : own (all_of (counts ids)) (within_burst (burst_of (settings_after first past)) most) ≡ bound = cc in
    subst (λ (n : ℕ). commands_of turns ≤ n) e (few_of_round_robin first past ids most class qid turns w)
few_come_before Weighted first past ids most Admin qid turns w bound h = absurd (cc)
few_come_before Weighted first past ids most Urgent qid turns w bound h =
    let b = bound_of_urgent ids (within_burst (burst_of (settings_after first past)) most) bound h in
    subst (λ (n : ℕ). commands_of turns ≤ n) b.1 (few_of_urgent first past ids most qid turns b.0 w)
few_come_before Weighted first past ids most High qid turns w bound h = level_few first past ids most High qid turns tt w bound h
few_come_before Weighted first past ids most Medium qid turns w bound h = level_few first past ids most Medium qid turns tt w bound h
few_come_before Weighted first past ids most Low qid turns w bound h = level_few first past ids most Low qid turns tt w bound h
