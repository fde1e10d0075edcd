-- Runs that are lawful by the profile keep each rule of the specification.
use Rattle.std.proofs.Common.{◌≡◌, ◌≢◌, ℕ, ◌<◌, ◌≤◌, ◌==◌, ◌⊎◌, inl, inr, ◌&&◌, ◌||◌, not, Bool, true, false, cond, nat_lt, List, [], ◌∷◌, slice_index_or, find, refl, sym, ap, subst, ◌∙◌, arith}
use Rattle.std.specs.Prelude.{Option, Some, None, All, IfSome}
use Rattle.std.specs.List.{list_any}
use Rattle.std.specs.Option.{option_or}
use Rattle.std.proofs.lemmas.Bool.{ltb-true, lt-ltb, le-ltb, cases_Bool, cond-true, cond-false, and_parts, and_from, and_right, or_cases, eqb-true, eqb-false, eq-eqb, true≢false, both_ways, not-true}
use Rattle.std.proofs.lemmas.List.Elements.{All-filter}
use Rattle.std.proofs.lemmas.List.Folds.{list_any_none, list_any_at}
use Rattle.nvme_arbiter.specs.Settings.{ArbitrationFields, burst_of, weight_of, IsLevel}
use Rattle.nvme_arbiter.specs.declared.settings.Class.{Class}
use Rattle.nvme_arbiter.specs.declared.settings.Class.TheVariants.{Admin, Urgent, High, Medium, Low}
use Rattle.nvme_arbiter.specs.declared.settings.Mechanism.{Mechanism}
use Rattle.nvme_arbiter.specs.declared.settings.Mechanism.TheVariants.{RoundRobin, Weighted}
use Rattle.nvme_arbiter.specs.declared.kept.Used.{Used}
use Rattle.nvme_arbiter.specs.declared.pick.Seen.{Seen}
use Rattle.nvme_arbiter.specs.declared.pick.Pick.{Pick}
use Rattle.nvme_arbiter.specs.declared.specified.Rule.TheVariants as rule
use Rattle.nvme_arbiter.specs.Observation.{is_class, IsObservation, ready, ready_of, class_in}
use Rattle.nvme_arbiter.specs.Next.{next}
use Rattle.nvme_arbiter.specs.History.{Picked, Changed, History, settings_after, last_served, last_served_of, is_in_class, used_in_round}
use Rattle.nvme_arbiter.specs.Rules.{within_burst, credit, admin_pick, urgent_pick, levels_pick, weighted_pick}
use Rattle.nvme_arbiter.specs.Lawful.{IsLimitedPick, IsLimitedRun}
use Rattle.nvme_arbiter.specs.Standing.{used_of, used_with, used_before}
use Rattle.nvme_arbiter.specs.Laws.{IsRoundOver}
use Rattle.nvme_arbiter.specs.Specified.{waiting, TakesCandidates, IsWithinBurst, strict_class, IsOfHighestPriority, has_credit, is_of_level, starts_round, round_used, IsWithinCredit, ready_in, is_pick_in, has_waited, NoneHasWaited, IsInTurn, IsSpecifiedPick, LawfulRunsAreSpecified, LimitedRunsAreSpecified}
use Rattle.nvme_arbiter.specs.Service.{Turn}
use Rattle.nvme_arbiter.proofs.Choices.{or_some, take_from_none, next_none, same_class, class_itself, next_of_class, Choice, of_admin, of_urgent, of_level, limited_choice, limited_from, levels_some, from_class, filter_nil}
use Rattle.nvme_arbiter.proofs.Stands.{used_step, from_in}
use Rattle.nvme_arbiter.proofs.PickLaws.{limited_are_measured, limited_over, lawful_is_limited}
use Rattle.nvme_arbiter.proofs.RoundLaws.{used_within}
use Rattle.nvme_arbiter.proofs.ServiceLemmas.{dist, nearer, between_all, IsBetween, next_lawful}

-- ---- candidates and the burst
takes_candidates : (m : Mechanism) (first : ArbitrationFields) (past : History) (seen : List Seen) (p : Pick) → IsObservation seen → IsLimitedPick m first past seen p → TakesCandidates seen p
takes_candidates m first past seen p o h =
    let is = limited_are_measured m first past seen p o h in
    record { at_least_one = is.at_least_one; that_wait = subst (λ q. p.n ≤ waiting q) (sym is.was_seen) is.within_count }

if_each : (P : ℕ → Type 0) (o : Option ℕ) → ((b : ℕ) → o ≡ Some b → P b) → IfSome o P
if_each P None h = tt
if_each P (Some b) h = h b refl

within_the_burst : (m : Mechanism) (first : ArbitrationFields) (past : History) (seen : List Seen) (p : Pick) → IsObservation seen → IsLimitedPick m first past seen p → IsWithinBurst (settings_after first past) p
within_the_burst m first past seen p o h =
    if_each (λ b. p.n ≤ b) (burst_of (settings_after first past)) (limited_are_measured m first past seen p o h).within_burst

-- ---- the strict priority classes
-- the class of a weighted pick, and which classes are not ready
data Ranked (seen : List Seen) (p : Pick) : Type 0 where
  as_admin : class_in seen p.qid ≡ Some Admin → Ranked seen p
  as_urgent : class_in seen p.qid ≡ Some Urgent → ready_of Admin seen ≡ [] → Ranked seen p
  as_level : (level : Class) → class_in seen p.qid ≡ Some level → ready_of Admin seen ≡ [] → ready_of Urgent seen ≡ [] → Ranked seen p

ranked_level : (s : ArbitrationFields) (last : Class → Option ℕ) (used : Class → ℕ) (seen : List Seen) (fresh : Bool) (p : Pick) → IsObservation seen → levels_pick s last used seen fresh ≡ Some p → ready_of Admin seen ≡ [] → ready_of Urgent seen ≡ [] → Ranked seen p
ranked_level s last used seen fresh p o e a u =
    let l = levels_some s last used seen fresh p e in
    as_level l.0 (from_in last seen l.0 fresh _ p o l.1.from) a u

ranked : (s : ArbitrationFields) (last : Class → Option ℕ) (used : Class → ℕ) (seen : List Seen) (p : Pick) → IsObservation seen → weighted_pick s last used seen ≡ Some p → Ranked seen p
ranked s last used seen p o h =
    elim (or_some (admin_pick s last used seen) (option_or (urgent_pick s last used seen) (option_or (levels_pick s last used seen false) (levels_pick s last used seen true))) p h) [
      | inl e ↦ as_admin (from_in last seen Admin false (λ q. 1) p o (from_class last seen Admin false (λ q. 1) p e))
      | inr a ↦ (let no_admin : ready_of Admin seen ≡ [] = next_none (last Admin) (ready_of Admin seen) (take_from_none false (λ q. 1) (next (last Admin) (ready_of Admin seen)) a.0) in
          elim (or_some (urgent_pick s last used seen) (option_or (levels_pick s last used seen false) (levels_pick s last used seen true)) p a.1) [
            | inl e ↦ as_urgent (from_in last seen Urgent false (λ q. within_burst (burst_of s) q.count) p o (from_class last seen Urgent false (λ q. within_burst (burst_of s) q.count) p e)) no_admin
            | inr u ↦ (let no_urgent : ready_of Urgent seen ≡ [] = next_none (last Urgent) (ready_of Urgent seen) (take_from_none false (λ q. within_burst (burst_of s) q.count) (next (last Urgent) (ready_of Urgent seen)) u.0) in
                elim (or_some (levels_pick s last used seen false) (levels_pick s last used seen true) p u.1) [
                  | inl e ↦ ranked_level s last used seen false p o e no_admin no_urgent
                  | inr e ↦ ranked_level s last used seen true p o e.1 no_admin no_urgent
                ])
          ])
    ]

-- where no queue of a class is ready, a ready queue is of another
not_of : (class : Class) (seen : List Seen) → ready_of class seen ≡ [] → All (λ s. 0 < s.count → s.class ≢ class) seen
not_of class seen e = λ k d h w same.
    let s : Seen = slice_index_or seen k d in
    let none : (is_class class s.class && nat_lt 0 s.count) ≡ false = filter_nil (λ t. is_class class t.class && nat_lt 0 t.count) seen e k d h in
    let here : is_class class s.class ≡ true = subst (λ c. is_class class c ≡ true) (sym same) (class_itself class) in
    both_ways (is_class class s.class && nat_lt 0 s.count) none (and_from (is_class class s.class) (nat_lt 0 s.count) here (lt-ltb 0 s.count w))

below_urgent : (class : Class) → class ≢ Admin → 1 ≤ strict_class class
below_urgent Admin n = absurd (n refl)
below_urgent Urgent n = omega arith
below_urgent High n = omega arith
below_urgent Medium n = omega arith
below_urgent Low n = omega arith

below_levels : (level class : Class) → class ≢ Admin → class ≢ Urgent → strict_class level ≤ strict_class class
below_levels level Admin n m = absurd (n refl)
below_levels level Urgent n m = absurd (m refl)
below_levels level High n m = elim level as (λ l. strict_class l ≤ 2) [ Admin ↦ omega arith | Urgent ↦ omega arith | High ↦ omega arith | Medium ↦ omega arith | Low ↦ omega arith ]
below_levels level Medium n m = elim level as (λ l. strict_class l ≤ 2) [ Admin ↦ omega arith | Urgent ↦ omega arith | High ↦ omega arith | Medium ↦ omega arith | Low ↦ omega arith ]
below_levels level Low n m = elim level as (λ l. strict_class l ≤ 2) [ Admin ↦ omega arith | Urgent ↦ omega arith | High ↦ omega arith | Medium ↦ omega arith | Low ↦ omega arith ]

highest_by : (seen : List Seen) (p : Pick) → Ranked seen p → IsOfHighestPriority Weighted seen p
highest_by seen p (as_admin e) = rw e (λ k d h w. omega arith)
highest_by seen p (as_urgent e a) = rw e (λ k d h w. below_urgent (slice_index_or seen k d).class (not_of Admin seen a k d h w))
highest_by seen p (as_level level e a u) = rw e (λ k d h w. below_levels level (slice_index_or seen k d).class (not_of Admin seen a k d h w) (not_of Urgent seen u k d h w))

of_highest_priority : (m : Mechanism) (first : ArbitrationFields) (past : History) (seen : List Seen) (p : Pick) → IsObservation seen → IsLimitedPick m first past seen p → IsOfHighestPriority m seen p
of_highest_priority RoundRobin first past seen p o h = tt
of_highest_priority Weighted first past seen p o h =
    subst (λ q. IfSome (class_in seen q) (λ class. All (λ s. 0 < s.count → strict_class class ≤ strict_class s.class) seen)) (sym h.is_cut.qid)
    (highest_by seen h.whole (ranked (settings_after first past) (λ c. last_served_of c past) (λ l. used_in_round l past) seen h.whole o h.lawful))

-- ---- rounds
-- a queue that is found decides whether some queue passes
any_found : (p g : Seen → Bool) (xs : List Seen) (q : Seen) → find p xs ≡ Some q → g q ≡ true → list_any g xs ≡ true
any_found p g [] q e t = absurd (cc)
any_found p g (x ∷ xs) q e t =
    elim (cases_Bool (p x)) [
      | inl y ↦ (let there : Some x ≡ Some q = sym (cond-true (p x) (Some x) (find p xs) y) ∙ e in
          let same : x ≡ q = cc in
          let here : g x ≡ true = subst (λ (z : Seen). g z ≡ true) (sym same) t in
          ap (λ b. b || list_any g xs) here)
      | inr f ↦ (let rest : list_any g xs ≡ true = any_found p g xs q (sym (cond-false (p x) (Some x) (find p xs) f) ∙ e) t in
          elim (g x) as (λ b. (b || list_any g xs) ≡ true) [ true ↦ refl | false ↦ rest ])
    ]

-- a level that is spent where it is ready has no queue with credit
no_credit : (s : ArbitrationFields) (used : Used) (q : Seen) → (IsLevel q.class → 0 < q.count → weight_of s q.class ≤ used_of used q.class) → (IsLevel q.class ⊎ (weight_of s q.class ≡ 0)) → has_credit s used q ≡ false
no_credit s used q h (inl l) =
    elim (cases_Bool (nat_lt 0 q.count)) [
      | inl t ↦ (let least = h l (ltb-true 0 q.count t) in and_right (nat_lt 0 q.count) (nat_lt (used_of used q.class) (weight_of s q.class)) (le-ltb (used_of used q.class) (weight_of s q.class) least))
      | inr f ↦ ap (λ b. b && nat_lt (used_of used q.class) (weight_of s q.class)) f
    ]
no_credit s used q h (inr z) =
    and_right (nat_lt 0 q.count) (nat_lt (used_of used q.class) (weight_of s q.class)) (le-ltb (used_of used q.class) (weight_of s q.class) (omega arith))

level_or_none : (s : ArbitrationFields) (class : Class) → IsLevel class ⊎ (weight_of s class ≡ 0)
level_or_none s Admin = inr refl
level_or_none s Urgent = inr refl
level_or_none s High = inl tt
level_or_none s Medium = inl tt
level_or_none s Low = inl tt

of_a_level : (level : Class) → IsLevel level → is_of_level (Some level) ≡ true
of_a_level Admin l = absurd l
of_a_level Urgent l = absurd l
of_a_level High l = refl
of_a_level Medium l = refl
of_a_level Low l = refl

-- what is looked back for in the round and what is told to be fresh are one
Agrees : Used → History → Type 0
Agrees used past = (level : Class) → IsLevel level → used_of used level ≡ used_in_round level past

over_is_spent : (s : ArbitrationFields) (used : Used) (past : History) (seen : List Seen) → Agrees used past → IsRoundOver s (λ l. used_in_round l past) seen → list_any (has_credit s used) seen ≡ false
unfolding Agrees
over_is_spent s used past seen a over =
    list_any_none (has_credit s used) seen (λ k d h.
    let q : Seen = slice_index_or seen k d in
    no_credit s used q (λ l w.
    let spent : weight_of s q.class ≤ used_in_round q.class past = over.spent q.class l (λ e. not_of q.class seen e k d h w refl) in
    subst (λ n. weight_of s q.class ≤ n) (sym (a q.class l)) spent) (level_or_none s q.class))

not_a_level : (s : ArbitrationFields) (used : Used) (seen : List Seen) (p : Pick) (class : Class) → class_in seen p.qid ≡ Some class → is_of_level (Some class) ≡ false → starts_round s used seen p ≡ false
not_a_level s used seen p class e f = ap (λ c. is_of_level c && not (list_any (has_credit s used) seen)) e ∙ ap (λ b. b && not (list_any (has_credit s used) seen)) f

level_starts : (s : ArbitrationFields) (used : Used) (seen : List Seen) (p : Pick) (level : Class) → class_in seen p.qid ≡ Some level → IsLevel level → (b : Bool) → list_any (has_credit s used) seen ≡ b → starts_round s used seen p ≡ not b
level_starts s used seen p level e l b h =
    ap (λ c. is_of_level c && not (list_any (has_credit s used) seen)) e ∙ (ap (λ c. c && not (list_any (has_credit s used) seen)) (of_a_level level l) ∙ ap not h)

starts_by : (s : ArbitrationFields) (used : Used) (past : History) (seen : List Seen) (p : Pick) → IsObservation seen → Agrees used past → (p.fresh ≡ true → IsRoundOver s (λ l. used_in_round l past) seen) → Choice s (λ c. last_served_of c past) (λ l. used_in_round l past) seen p → starts_round s used seen p ≡ p.fresh
unfolding Agrees
starts_by s used past seen p o a over (of_admin f) =
    not_a_level s used seen p Admin (from_in (λ c. last_served_of c past) seen Admin false (λ q. 1) p o f) refl ∙ sym f.taken_is.fresh_is
starts_by s used past seen p o a over (of_urgent f) =
    not_a_level s used seen p Urgent (from_in (λ c. last_served_of c past) seen Urgent false (λ q. within_burst (burst_of s) q.count) p o f) refl ∙ sym f.taken_is.fresh_is
starts_by s used past seen p o a over (of_level true level f) =
    level_starts s used seen p level (from_in (λ c. last_served_of c past) seen level true _ p o f.from) f.level_is false (over_is_spent s used past seen a (over f.from.taken_is.fresh_is)) ∙ sym f.from.taken_is.fresh_is
starts_by s used past seen p o a over (of_level false level f) =
    let is = next_of_class level (last_served_of level past) seen f.from.queue o.ascending f.from.next_is in
    let same : level ≡ f.from.queue.class = same_class level f.from.queue.class is.class_is in
    let some : 0 < credit s (λ l. used_in_round l past) false level = f.has_credit in
    let agrees : used_of used level ≡ used_in_round level past = a level f.level_is in
    let less : used_of used level < weight_of s level = omega arith in
    let left : used_of used f.from.queue.class < weight_of s f.from.queue.class = subst (λ c. used_of used c < weight_of s c) same less in
    let has : has_credit s used f.from.queue ≡ true = and_from (nat_lt 0 f.from.queue.count) (nat_lt (used_of used f.from.queue.class) (weight_of s f.from.queue.class)) (lt-ltb 0 f.from.queue.count is.waits) (lt-ltb (used_of used f.from.queue.class) (weight_of s f.from.queue.class) left) in
    level_starts s used seen p level (from_in (λ c. last_served_of c past) seen level false _ p o f.from) f.level_is true (any_found (λ t. t.qid == f.from.queue.qid) (has_credit s used) seen f.from.queue is.there has) ∙ sym f.from.taken_is.fresh_is

starts_where_fresh : (first : ArbitrationFields) (past : History) (seen : List Seen) (p : Pick) (used : Used) → IsObservation seen → IsLimitedPick Weighted first past seen p → Agrees used past → starts_round (settings_after first past) used seen p ≡ p.fresh
starts_where_fresh first past seen p used o h a =
    starts_by (settings_after first past) used past seen p o a
    (limited_over first past seen p h) (limited_choice first past seen p h)

rounds_agree : (first : ArbitrationFields) (past : History) → IsLimitedRun Weighted first past → Agrees (round_used first past) past
unfolding Agrees
rounds_agree first [] r Admin l = absurd l
rounds_agree first [] r Urgent l = absurd l
rounds_agree first [] r High l = refl
rounds_agree first [] r Medium l = refl
rounds_agree first [] r Low l = refl
rounds_agree first (Changed settings ∷ past) r Admin l = absurd l
rounds_agree first (Changed settings ∷ past) r Urgent l = absurd l
rounds_agree first (Changed settings ∷ past) r High l = refl
rounds_agree first (Changed settings ∷ past) r Medium l = refl
rounds_agree first (Changed settings ∷ past) r Low l = refl
rounds_agree first (Picked seen pick ∷ past) r level l =
    let used : Used = round_used first past in
    let before : (k : Class) → IsLevel k → used_of used k ≡ used_in_round k past = rounds_agree first past r.2 in
    let starts : starts_round (settings_after first past) used seen pick ≡ pick.fresh = starts_where_fresh first past seen pick used r.0 r.1 before in
    ap (λ b. used_of (used_with (used_before b used) (class_in seen pick.qid) pick.n) level) starts ∙
    used_step used (class_in seen pick.qid) level pick.n pick.fresh (used_in_round level past) l (before level l)

within_credit : (m : Mechanism) (first : ArbitrationFields) (past : History) (seen : List Seen) (p : Pick) → IsLimitedRun m first (Picked seen p ∷ past) → IsWithinCredit m first past seen p
unfolding Agrees
within_credit RoundRobin first past seen p r = tt
within_credit Weighted first past seen p r = λ level l.
    let same : used_of (round_used first (Picked seen p ∷ past)) level ≡ used_in_round level (Picked seen p ∷ past) = rounds_agree first (Picked seen p ∷ past) r level l in
    subst (λ n. n ≤ weight_of (settings_after first past) level) (sym same) (used_within first (Picked seen p ∷ past) level r l)

-- ---- turns
-- no queue waits behind its own pick
never_itself : (class : Option Class) (q : ℕ) (past : History) → has_waited class q q past ≡ false
never_itself class q [] = refl
never_itself class q (Changed settings ∷ past) = never_itself class q past
never_itself class q (Picked seen pick ∷ past) =
    let rest : has_waited class q q past ≡ false = never_itself class q past in
    let own : (not (pick.qid == q) && ((pick.qid == q) || has_waited class q q past)) ≡ false = elim (pick.qid == q) as (λ e. (not e && (e || has_waited class q q past)) ≡ false) [ true ↦ refl | false ↦ rest ] in
    elim (is_pick_in class seen pick) as (λ b. cond b (list_any (λ s. s.qid == q) (ready_in class seen) && (not (pick.qid == q) && ((pick.qid == q) || has_waited class q q past))) (has_waited class q q past) ≡ false) [
      | true ↦ and_right (list_any (λ s. s.qid == q) (ready_in class seen)) (not (pick.qid == q) && ((pick.qid == q) || has_waited class q q past)) own
      | false ↦ rest
    ]

-- a lawful pick is nearer to each other ready queue than the one before
robin_nearer : (first : ArbitrationFields) (past : History) (seen : List Seen) (p : Pick) (other : ℕ) → IsObservation seen → IsLimitedPick RoundRobin first past seen p → list_any (λ s. s.qid == other) (ready_in None seen) ≡ true → p.qid ≢ other → dist 0 (Some p.qid) other < dist 0 (last_served past) other
robin_nearer first past seen p other o h w n =
    let t = limited_from first past seen p h in
    let apart : t.0.qid ≢ other = λ e. n (t.2.qid ∙ e) in
    let step : dist 0 (Some t.0.qid) other < dist 0 (last_served past) other =
    nearer 0 (last_served past) (ready seen) t.0 other (All-filter (λ v. nat_lt 0 v.count) (IsBetween 0) seen (between_all seen o)) t.1 w apart in
    subst (λ i. dist 0 (Some i) other < dist 0 (last_served past) other) (sym t.2.qid) step

class_nearer : (first : ArbitrationFields) (past : History) (class : Class) (seen : List Seen) (p : Pick) (other : ℕ) → IsObservation seen → IsLimitedPick Weighted first past seen p → is_in_class class (class_in seen p.qid) ≡ true → list_any (λ s. s.qid == other) (ready_in (Some class) seen) ≡ true → p.qid ≢ other → dist 0 (Some p.qid) other < dist 0 (last_served_of class past) other
class_nearer first past class seen p other o h y w n =
    let t : Turn = record { seen = seen; pick = p } in
    let f = next_lawful first past class t o h y in
    let apart : f.queue.qid ≢ other = λ e. n (f.qid ∙ e) in
    let step : dist 0 (Some f.queue.qid) other < dist 0 (last_served_of class past) other =
    nearer 0 (last_served_of class past) (ready_of class seen) f.queue other (All-filter (λ v. is_class class v.class && nat_lt 0 v.count) (IsBetween 0) seen (between_all seen o)) f.next_is w apart in
    subst (λ i. dist 0 (Some i) other < dist 0 (last_served_of class past) other) (sym f.qid) step

-- a queue that has waited since the latest pick of another is at most as far from the one that was served last
robin_waits : (first : ArbitrationFields) (past : History) (q other : ℕ) → IsLimitedRun RoundRobin first past → has_waited None q other past ≡ true → dist 0 (last_served past) other ≤ dist 0 (Some q) other
robin_waits first [] q other r h = absurd (true≢false (sym h))
robin_waits first (Changed settings ∷ past) q other r h = robin_waits first past q other r h
robin_waits first (Picked seen pick ∷ past) q other r h =
    let a = and_parts (list_any (λ s. s.qid == other) (ready_in None seen)) (not (pick.qid == other) && ((pick.qid == q) || has_waited None q other past)) h in
    let b = and_parts (not (pick.qid == other)) ((pick.qid == q) || has_waited None q other past) a.1 in
    elim (or_cases (pick.qid == q) (has_waited None q other past) b.1) [
      | inl e ↦ (let same : dist 0 (Some pick.qid) other ≡ dist 0 (Some q) other = ap (λ i. dist 0 (Some i) other) (eqb-true pick.qid q e) in omega arith)
      | inr w ↦ (let before : dist 0 (last_served past) other ≤ dist 0 (Some q) other = robin_waits first past q other r.2 w in
          let step = robin_nearer first past seen pick other r.0 r.1 a.0 (eqb-false pick.qid other (not-true (pick.qid == other) b.0)) in omega arith)
    ]

class_waits : (first : ArbitrationFields) (past : History) (class : Class) (q other : ℕ) → IsLimitedRun Weighted first past → has_waited (Some class) q other past ≡ true → dist 0 (last_served_of class past) other ≤ dist 0 (Some q) other
class_waits first [] class q other r h = absurd (true≢false (sym h))
class_waits first (Changed settings ∷ past) class q other r h = class_waits first past class q other r h
class_waits first (Picked seen pick ∷ past) class q other r h =
    let of_it : Bool = is_in_class class (class_in seen pick.qid) in
    let here : Bool = list_any (λ s. s.qid == other) (ready_in (Some class) seen) && (not (pick.qid == other) && ((pick.qid == q) || has_waited (Some class) q other past)) in
    elim (cases_Bool of_it) [
      | inl y ↦ (
          let a = and_parts (list_any (λ s. s.qid == other) (ready_in (Some class) seen)) (not (pick.qid == other) && ((pick.qid == q) || has_waited (Some class) q other past)) (sym (cond-true of_it here (has_waited (Some class) q other past) y) ∙ h) in
          let b = and_parts (not (pick.qid == other)) ((pick.qid == q) || has_waited (Some class) q other past) a.1 in
          let last_is : last_served_of class (Picked seen pick ∷ past) ≡ Some pick.qid = cond-true of_it (Some pick.qid) (last_served_of class past) y in
          let now : dist 0 (last_served_of class (Picked seen pick ∷ past)) other ≡ dist 0 (Some pick.qid) other = ap (λ o. dist 0 o other) last_is in
          elim (or_cases (pick.qid == q) (has_waited (Some class) q other past) b.1) [
            | inl e ↦ (let same : dist 0 (Some pick.qid) other ≡ dist 0 (Some q) other = ap (λ i. dist 0 (Some i) other) (eqb-true pick.qid q e) in omega arith)
            | inr w ↦ (let before : dist 0 (last_served_of class past) other ≤ dist 0 (Some q) other = class_waits first past class q other r.2 w in
                let step = class_nearer first past class seen pick other r.0 r.1 y a.0 (eqb-false pick.qid other (not-true (pick.qid == other) b.0)) in omega arith)
          ])
      | inr f ↦ (
          let before : dist 0 (last_served_of class past) other ≤ dist 0 (Some q) other = class_waits first past class q other r.2 (sym (cond-false of_it here (has_waited (Some class) q other past) f) ∙ h) in
          let now : dist 0 (last_served_of class (Picked seen pick ∷ past)) other ≡ dist 0 (last_served_of class past) other = ap (λ o. dist 0 o other) (cond-false of_it (Some pick.qid) (last_served_of class past) f) in
          omega arith)
    ]

itself_in : (xs : List Seen) → All (λ s. list_any (λ t. t.qid == s.qid) xs ≡ true) xs
itself_in xs = λ k d h. list_any_at (λ t. t.qid == (slice_index_or xs k d).qid) xs k d h (eq-eqb (slice_index_or xs k d).qid (slice_index_or xs k d).qid refl)

-- who has waited is another queue
is_other : (class : Option Class) (q other : ℕ) (past : History) → has_waited class q other past ≡ true → q ≢ other
is_other class q other past w e = true≢false (sym w ∙ (ap (λ i. has_waited class q i past) (sym e) ∙ never_itself class q past))

robin_in_turn : (first : ArbitrationFields) (past : History) (seen : List Seen) (p : Pick) → IsLimitedRun RoundRobin first (Picked seen p ∷ past) → NoneHasWaited None past seen p
robin_in_turn first past seen p r = λ k d h.
    let s : Seen = slice_index_or (ready_in None seen) k d in
    elim (cases_Bool (has_waited None p.qid s.qid past)) [
      | inl w ↦ (
          let near = robin_waits first past p.qid s.qid r.2 w in
          let step = robin_nearer first past seen p s.qid r.0 r.1 (itself_in (ready_in None seen) k d h) (is_other None p.qid s.qid past w) in
          absurd (omega arith))
      | inr f ↦ f
    ]

class_in_turn : (first : ArbitrationFields) (past : History) (class : Class) (seen : List Seen) (p : Pick) → class_in seen p.qid ≡ Some class → IsLimitedRun Weighted first (Picked seen p ∷ past) → NoneHasWaited (Some class) past seen p
class_in_turn first past class seen p e r = λ k d h.
    let s : Seen = slice_index_or (ready_in (Some class) seen) k d in
    let y : is_in_class class (class_in seen p.qid) ≡ true = ap (is_in_class class) e ∙ class_itself class in
    elim (cases_Bool (has_waited (Some class) p.qid s.qid past)) [
      | inl w ↦ (
          let near = class_waits first past class p.qid s.qid r.2 w in
          let step = class_nearer first past class seen p s.qid r.0 r.1 y (itself_in (ready_in (Some class) seen) k d h) (is_other (Some class) p.qid s.qid past w) in
          absurd (omega arith))
      | inr f ↦ f
    ]

if_class : (P : Class → Type 0) (o : Option Class) → ((c : Class) → o ≡ Some c → P c) → IfSome o P
if_class P None h = tt
if_class P (Some c) h = h c refl

in_turn : (m : Mechanism) (first : ArbitrationFields) (past : History) (seen : List Seen) (p : Pick) → IsLimitedRun m first (Picked seen p ∷ past) → IsInTurn m past seen p
in_turn RoundRobin first past seen p r = robin_in_turn first past seen p r
in_turn Weighted first past seen p r = if_class (λ c. NoneHasWaited (Some c) past seen p) (class_in seen p.qid) (λ c e. class_in_turn first past c seen p e r)

-- ---- all of these
each_rule : (m : Mechanism) (first : ArbitrationFields) (past : History) (seen : List Seen) (p : Pick) → IsLimitedRun m first (Picked seen p ∷ past) → IsSpecifiedPick m first past seen p
each_rule m first past seen p r rule.Candidates = takes_candidates m first past seen p r.0 r.1
each_rule m first past seen p r rule.Burst = within_the_burst m first past seen p r.0 r.1
each_rule m first past seen p r rule.Priority = of_highest_priority m first past seen p r.0 r.1
each_rule m first past seen p r rule.Credit = within_credit m first past seen p r
each_rule m first past seen p r rule.Turn = in_turn m first past seen p r

pub limited_specified : LimitedRunsAreSpecified
limited_specified m first [] r = tt
limited_specified m first (Changed settings ∷ past) r = limited_specified m first past r
limited_specified m first (Picked seen pick ∷ past) r = (r.0, each_rule m first past seen pick r, limited_specified m first past r.2)

pub lawful_specified : LawfulRunsAreSpecified
lawful_specified m first past r = limited_specified m first past (lawful_is_limited m first past r)
