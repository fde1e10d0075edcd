-- How many picks of others come before one.
use Rattle.std.proofs.Common.{◌≡◌, ◌≢◌, ℕ, zero, suc, ◌+◌, ◌-◌, ◌*◌, ◌<◌, ◌≤◌, ◌==◌, ◌⊎◌, ◌&&◌, ◌||◌, inl, inr, ◌∷◌, [], ◌++◌, Bool, true, false, nat_lt, nat_le, cond, count_by, min, List, length, slice_index_or, refl, sym, ap, subst, ◌∙◌, arith}
use Rattle.std.specs.Prelude.{Option, Some, None, All, IfSome, filter, sum_by}
use Rattle.std.specs.List.{list_any}
use Rattle.std.proofs.lemmas.Bool.{cases_lt, cases_eq, cases_Bool, cond-true, cond-false, and_from, and_parts, or_cases, both_ways, true≢false}
use Rattle.std.proofs.lemmas.List.{length-append}
use Rattle.std.proofs.lemmas.List.Elements.{All-head, All-tail, All-nil, All-cons}
use Rattle.std.proofs.lemmas.List.Folds.{list_any-append}
use Rattle.std.proofs.lemmas.List.Sums.{sum_by-cons}
use Rattle.nvme_arbiter.specs.Settings.{ArbitrationFields, burst_of, weight_of, IsLevel}
use Rattle.nvme_arbiter.specs.declared.pick.Seen.{Seen}
use Rattle.nvme_arbiter.specs.declared.pick.Pick.{Pick}
use Rattle.nvme_arbiter.specs.declared.settings.Class.{Class}
use Rattle.nvme_arbiter.specs.declared.settings.Class.TheVariants.{Admin, Urgent, High, Medium, Low}
use Rattle.nvme_arbiter.specs.declared.settings.Mechanism.{Mechanism}
use Rattle.nvme_arbiter.specs.declared.settings.Mechanism.TheVariants.{RoundRobin, Weighted}
use Rattle.nvme_arbiter.specs.Observation.{is_class, IsObservation, ready, ready_of, class_in}
use Rattle.nvme_arbiter.specs.Next.{next}
use Rattle.nvme_arbiter.specs.History.{History, settings_after, last_served, last_served_of, is_in_class, used_in_round}
use Rattle.nvme_arbiter.specs.Rules.{within_burst, credit}
use Rattle.nvme_arbiter.specs.Lawful.{IsLimitedPick, IsLimitedRun}
use Rattle.nvme_arbiter.specs.Service.{Turn, events_of, is_of_class, sees_ready_in}
use Rattle.nvme_arbiter.proofs.Choices.{class_itself, limited_from, next_is_one, same_class}
use Rattle.nvme_arbiter.proofs.ServiceLemmas.{IsNextOf, next_lawful}
use Rattle.nvme_bounds.specs.Stretches.{IsAmong}
use Rattle.nvme_bounds.proofs.Arcs.{arc, arc_falls, arc_most, arc_some, at_qid}

-- ---- all queues, of whatever class
pub all_ids : (Class → List ℕ) → List ℕ
all_ids ids = ids Admin ++ (ids Urgent ++ (ids High ++ (ids Medium ++ ids Low)))

Of : List ℕ → Seen → Type 0
Of ids s = list_any (λ i. s.qid == i) ids ≡ true

-- a queue of a class is one of all
or_true : (a b : Bool) → b ≡ true → (a || b) ≡ true
or_true false b h = h
or_true true b h = refl

true_or : (a b : Bool) → a ≡ true → (a || b) ≡ true
true_or true b h = refl
true_or false b h = absurd (true≢false (sym h))

left_of : (p : ℕ → Bool) (xs ys : List ℕ) → list_any p xs ≡ true → list_any p (xs ++ ys) ≡ true
left_of p xs ys h = list_any-append p xs ys ∙ true_or (list_any p xs) (list_any p ys) h

right_of : (p : ℕ → Bool) (xs ys : List ℕ) → list_any p ys ≡ true → list_any p (xs ++ ys) ≡ true
right_of p xs ys h = list_any-append p xs ys ∙ or_true (list_any p xs) (list_any p ys) h

pub one_of_all : (ids : Class → List ℕ) (class : Class) (p : ℕ → Bool) → list_any p (ids class) ≡ true → list_any p (all_ids ids) ≡ true
unfolding all_ids
one_of_all ids Admin p h = left_of p (ids Admin) _ h
one_of_all ids Urgent p h = right_of p (ids Admin) _ (left_of p (ids Urgent) _ h)
one_of_all ids High p h = right_of p (ids Admin) _ (right_of p (ids Urgent) _ (left_of p (ids High) _ h))
one_of_all ids Medium p h = right_of p (ids Admin) _ (right_of p (ids Urgent) _ (right_of p (ids High) _ (left_of p (ids Medium) _ h)))
one_of_all ids Low p h = right_of p (ids Admin) _ (right_of p (ids Urgent) _ (right_of p (ids High) _ (right_of p (ids Medium) _ h)))

pub all_length : (ids : Class → List ℕ) → length (all_ids ids) ≡ length (ids Admin) + length (ids Urgent) + length (ids High) + length (ids Medium) + length (ids Low)
unfolding all_ids
all_length ids = omega (
  arith,
  length-append (ids Admin) (ids Urgent ++ (ids High ++ (ids Medium ++ ids Low))),
  length-append (ids Urgent) (ids High ++ (ids Medium ++ ids Low)),
  length-append (ids High) (ids Medium ++ ids Low),
  length-append (ids Medium) (ids Low),
)

-- the ready queues, class by class
ready_more : (x : Seen) (rest : List Seen) → nat_lt 0 x.count ≡ true → ready (x ∷ rest) ≡ x ∷ ready rest
ready_more x rest t = cond-true (nat_lt 0 x.count) (x ∷ ready rest) (ready rest) t

ready_less : (x : Seen) (rest : List Seen) → nat_lt 0 x.count ≡ false → ready (x ∷ rest) ≡ ready rest
ready_less x rest f = cond-false (nat_lt 0 x.count) (x ∷ ready rest) (ready rest) f

in_class : (c : Class) (x : Seen) → Bool
in_class c x = is_class c x.class && nat_lt 0 x.count

class_rest : (P : Seen → Type 0) (c : Class) (x : Seen) (rest : List Seen) → All P (ready_of c (x ∷ rest)) → All P (ready_of c rest)
unfolding in_class
class_rest P c x rest a =
    elim (cases_Bool (in_class c x)) [
      | inl t ↦ All-tail P x (ready_of c rest) (subst (All P) (cond-true (in_class c x) (x ∷ ready_of c rest) (ready_of c rest) t) a)
      | inr f ↦ subst (All P) (cond-false (in_class c x) (x ∷ ready_of c rest) (ready_of c rest) f) a
    ]

class_first : (P : Seen → Type 0) (x : Seen) (rest : List Seen) → nat_lt 0 x.count ≡ true → All P (ready_of x.class (x ∷ rest)) → P x
unfolding in_class
class_first P x rest t a =
    let here : in_class x.class x ≡ true = and_from (is_class x.class x.class) (nat_lt 0 x.count) (class_itself x.class) t in
    All-head P x (ready_of x.class rest) (subst (All P) (cond-true (in_class x.class x) (x ∷ ready_of x.class rest) (ready_of x.class rest) here) a)

pub all_ready : (P : Seen → Type 0) (seen : List Seen) → ((c : Class) → All P (ready_of c seen)) → All P (ready seen)
all_ready P [] a = All-nil P
all_ready P (x ∷ rest) a =
    let others = all_ready P rest (λ c. class_rest P c x rest (a c)) in
    elim (cases_Bool (nat_lt 0 x.count)) [
      | inl t ↦ subst (All P) (sym (ready_more x rest t)) (All-cons P x (ready rest) (class_first P x rest t (a x.class)) others)
      | inr f ↦ subst (All P) (sym (ready_less x rest f)) others
    ]

pub any_ready : (p : Seen → Bool) (c : Class) (seen : List Seen) → list_any p (ready_of c seen) ≡ true → list_any p (ready seen) ≡ true
unfolding in_class
any_ready p c [] h = h
any_ready p c (x ∷ rest) h =
    elim (cases_Bool (in_class c x)) [
      | inl t ↦ (
          let parts = and_parts (is_class c x.class) (nat_lt 0 x.count) t in
          let here : list_any p (x ∷ ready_of c rest) ≡ true = sym (ap (list_any p) (cond-true (in_class c x) (x ∷ ready_of c rest) (ready_of c rest) t)) ∙ h in
          ap (list_any p) (ready_more x rest parts.1) ∙ (elim (or_cases (p x) (list_any p (ready_of c rest)) here) [
            | inl y ↦ true_or (p x) (list_any p (ready rest)) y
            | inr r ↦ or_true (p x) (list_any p (ready rest)) (any_ready p c rest r)
          ]))
      | inr f ↦ (
          let others : list_any p (ready rest) ≡ true = any_ready p c rest (sym (ap (list_any p) (cond-false (in_class c x) (x ∷ ready_of c rest) (ready_of c rest) f)) ∙ h) in
          elim (cases_Bool (nat_lt 0 x.count)) [
            | inl t ↦ ap (list_any p) (ready_more x rest t) ∙ or_true (p x) (list_any p (ready rest)) others
            | inr g ↦ ap (list_any p) (ready_less x rest g) ∙ others
          ])
    ]

-- a queue that is seen ready in a class is one of the class's
pub is_known : (ids : List ℕ) (q : ℕ) (xs : List Seen) → All (λ s. list_any (λ i. s.qid == i) ids ≡ true) xs → list_any (λ s. s.qid == q) xs ≡ true → list_any (λ i. q == i) ids ≡ true
is_known ids q xs a w =
    let s = at_qid (λ s. list_any (λ i. s.qid == i) ids ≡ true) q xs a w in
    subst (λ (n : ℕ). list_any (λ i. n == i) ids ≡ true) s.2 s.1

-- ---- round robin
pub round_robin_falls : (first : ArbitrationFields) (past : History) (ids : Class → List ℕ) (class : Class) (q : ℕ) (turns : List Turn) → IsLimitedRun RoundRobin first (events_of turns ++ past) → All (λ t. IsAmong ids t.seen) turns → All (λ t. sees_ready_in class q t ≡ true) turns → All (λ t. t.pick.qid ≢ q) turns
    → arc (last_served (events_of turns ++ past)) q (all_ids ids) + length turns ≤ arc (last_served past) q (all_ids ids)
round_robin_falls first past ids class q [] h among waits passed = omega arith
round_robin_falls first past ids class q (t ∷ rest) h among waits passed =
    let before : History = events_of rest ++ past in
    let ih = round_robin_falls first past ids class q rest h.2 (All-tail (λ (t : Turn). IsAmong ids t.seen) t rest among) (All-tail (λ (t : Turn). sees_ready_in class q t ≡ true) t rest waits) (All-tail (λ (t : Turn). t.pick.qid ≢ q) t rest passed) in
    let p = limited_from first before t.seen t.pick h.1 in
    let same : t.pick.qid ≡ p.0.qid = p.2.qid in
    let other : p.0.qid ≢ q = λ e. All-head (λ (t : Turn). t.pick.qid ≢ q) t rest passed (same ∙ e) in
    let known = all_ready (λ s. list_any (λ i. s.qid == i) (all_ids ids) ≡ true) t.seen (λ c k d l. one_of_all ids c (λ i. (slice_index_or (ready_of c t.seen) k d).qid == i) (All-head (λ (t : Turn). IsAmong ids t.seen) t rest among c k d l)) in
    let of : list_any (λ i. p.0.qid == i) (all_ids ids) ≡ true = next_is_one (λ s. list_any (λ i. s.qid == i) (all_ids ids) ≡ true) (last_served before) (ready t.seen) p.0 known p.1 in
    let sees = any_ready (λ s. s.qid == q) class t.seen (All-head (λ (t : Turn). sees_ready_in class q t ≡ true) t rest waits) in
    let step = arc_falls (last_served before) (ready t.seen) p.0 q (all_ids ids) p.1 sees other of in
    let now : arc (Some t.pick.qid) q (all_ids ids) ≡ arc (Some p.0.qid) q (all_ids ids) = ap (λ (n : ℕ). arc (Some n) q (all_ids ids)) same in
    omega (arith, ih, step, now)

-- the queue is one of those that were counted, where there is a pick
seen_known : (ids : Class → List ℕ) (class : Class) (q : ℕ) (t : Turn) → IsAmong ids t.seen → sees_ready_in class q t ≡ true → list_any (λ i. q == i) (ids class) ≡ true
seen_known ids class q t among waits = is_known (ids class) q (ready_of class t.seen) (among class) waits

pub round_robin_few : (first : ArbitrationFields) (past : History) (ids : Class → List ℕ) (class : Class) (q : ℕ) (turns : List Turn) → IsLimitedRun RoundRobin first (events_of turns ++ past) → All (λ t. IsAmong ids t.seen) turns → All (λ t. sees_ready_in class q t ≡ true) turns → All (λ t. t.pick.qid ≢ q) turns
    → length turns ≤ length (all_ids ids) - 1
round_robin_few first past ids class q [] h among waits passed = omega arith
round_robin_few first past ids class q (t ∷ rest) h among waits passed =
    let falls = round_robin_falls first past ids class q (t ∷ rest) h among waits passed in
    let known = one_of_all ids class (λ i. q == i) (seen_known ids class q t (All-head (λ (t : Turn). IsAmong ids t.seen) t rest among) (All-head (λ (t : Turn). sees_ready_in class q t ≡ true) t rest waits)) in
    let some = arc_some (last_served (events_of (t ∷ rest) ++ past)) q (all_ids ids) known in
    let most = arc_most (last_served past) q (all_ids ids) in
    omega (arith, falls, some, most)

-- ---- a class
unfoldable pub one : Bool → ℕ
one b = cond b 1 0

pub count_more : (p : Turn → Bool) (t : Turn) (rest : List Turn) → count_by p (t ∷ rest) ≡ one (p t) + count_by p rest
unfolding one
count_more p t rest = sum_by-cons (λ (t : Turn). cond (p t) 1 0) t rest

pub class_falls : (first : ArbitrationFields) (past : History) (ids : Class → List ℕ) (class : Class) (q : ℕ) (turns : List Turn) → IsLimitedRun Weighted first (events_of turns ++ past) → All (λ t. IsAmong ids t.seen) turns → All (λ t. sees_ready_in class q t ≡ true) turns → All (λ t. t.pick.qid ≢ q) turns
    → arc (last_served_of class (events_of turns ++ past)) q (ids class) + count_by (is_of_class class) turns ≤ arc (last_served_of class past) q (ids class)
unfolding one
class_falls first past ids class q [] h among waits passed = omega arith
class_falls first past ids class q (t ∷ rest) h among waits passed =
    let before : History = events_of rest ++ past in
    let ih = class_falls first past ids class q rest h.2 (All-tail (λ (t : Turn). IsAmong ids t.seen) t rest among) (All-tail (λ (t : Turn). sees_ready_in class q t ≡ true) t rest waits) (All-tail (λ (t : Turn). t.pick.qid ≢ q) t rest passed) in
    let count = count_more (is_of_class class) t rest in
    elim (cases_Bool (is_of_class class t)) [
      | inl y ↦ (
          let p = next_lawful first before class t h.0 h.1 y in
          let other : p.queue.qid ≢ q = λ e. All-head (λ (t : Turn). t.pick.qid ≢ q) t rest passed (p.qid ∙ e) in
          let of : list_any (λ i. p.queue.qid == i) (ids class) ≡ true = next_is_one (λ s. list_any (λ i. s.qid == i) (ids class) ≡ true) (last_served_of class before) (ready_of class t.seen) p.queue (All-head (λ (t : Turn). IsAmong ids t.seen) t rest among class) p.next_is in
          let step = arc_falls (last_served_of class before) (ready_of class t.seen) p.queue q (ids class) p.next_is (All-head (λ (t : Turn). sees_ready_in class q t ≡ true) t rest waits) other of in
          let last_is : last_served_of class (events_of (t ∷ rest) ++ past) ≡ Some t.pick.qid = cond-true (is_of_class class t) (Some t.pick.qid) (last_served_of class before) y in
          let now : arc (last_served_of class (events_of (t ∷ rest) ++ past)) q (ids class) ≡ arc (Some p.queue.qid) q (ids class) = ap (λ (o : Option ℕ). arc o q (ids class)) last_is ∙ ap (λ (n : ℕ). arc (Some n) q (ids class)) p.qid in
          let is_one : one (is_of_class class t) ≡ 1 = ap one y in
          omega (arith, ih, step, now, count, is_one))
      | inr f ↦ (
          let last_is : last_served_of class (events_of (t ∷ rest) ++ past) ≡ last_served_of class before = cond-false (is_of_class class t) (Some t.pick.qid) (last_served_of class before) f in
          let now : arc (last_served_of class (events_of (t ∷ rest) ++ past)) q (ids class) ≡ arc (last_served_of class before) q (ids class) = ap (λ (o : Option ℕ). arc o q (ids class)) last_is in
          let is_none : one (is_of_class class t) ≡ 0 = ap one f in
          omega (arith, ih, now, count, is_none))
    ]

pub class_few : (first : ArbitrationFields) (past : History) (ids : Class → List ℕ) (class : Class) (q : ℕ) (turns : List Turn) → IsLimitedRun Weighted first (events_of turns ++ past) → All (λ t. IsAmong ids t.seen) turns → All (λ t. sees_ready_in class q t ≡ true) turns → All (λ t. t.pick.qid ≢ q) turns
    → count_by (is_of_class class) turns ≤ length (ids class) - 1
class_few first past ids class q [] h among waits passed = omega arith
class_few first past ids class q (t ∷ rest) h among waits passed =
    let falls = class_falls first past ids class q (t ∷ rest) h among waits passed in
    let known = seen_known ids class q t (All-head (λ (t : Turn). IsAmong ids t.seen) t rest among) (All-head (λ (t : Turn). sees_ready_in class q t ≡ true) t rest waits) in
    let some = arc_some (last_served_of class (events_of (t ∷ rest) ++ past)) q (ids class) known in
    let most = arc_most (last_served_of class past) q (ids class) in
    omega (arith, falls, some, most)
