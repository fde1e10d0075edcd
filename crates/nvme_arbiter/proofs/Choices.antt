-- The rules of a pick, taken apart.
use Rattle.std.proofs.Common.{◌≡◌, ℕ, ◌<◌, ◌≤◌, ◌==◌, ◌⊎◌, inl, inr, ◌&&◌, min, Bool, true, false, cond, nat_lt, List, [], ◌∷◌, slice_index_or, find, refl, sym, ap, subst, ◌∙◌, arith}
use Rattle.std.specs.Prelude.{filter, Option, Some, None, All, AllPairs, IfSome, IsNone, ◌↔◌, if◌then◌else◌}
use Rattle.std.specs.Option.{option_or}
use Rattle.std.proofs.lemmas.Bool.{le-ltb, ltb-true, ltb-false, lt-ltb, eq-eqb, ne_eqb, cond-true, cond-false, cases_Bool, and_right, and_parts}
use Rattle.std.proofs.lemmas.List.Elements.{All-head, All-tail, All-nil, All-cons, All-filter, filter_passes}
use Rattle.nvme_arbiter.specs.Settings.{ArbitrationFields, burst_of, weight_of, IsLevel}
use Rattle.nvme_arbiter.specs.declared.pick.Seen.{Seen}
use Rattle.nvme_arbiter.specs.declared.pick.Pick.{Pick}
use Rattle.nvme_arbiter.specs.declared.settings.Class.{Class}
use Rattle.nvme_arbiter.specs.declared.settings.Class.TheVariants.{Admin, Urgent, High, Medium, Low}
use Rattle.nvme_arbiter.specs.Observation.{is_class, IsIdle, ready, ready_of, class_in}
use Rattle.nvme_arbiter.specs.Next.{lower, least, above, next}
use Rattle.nvme_arbiter.specs.Rules.{within_burst, take_from, round_robin_pick, credit, admin_pick, urgent_pick, level_pick, levels_pick, weighted_pick}
use Rattle.nvme_arbiter.specs.History.{History, settings_after, last_served, last_served_of, used_in_round}
use Rattle.nvme_arbiter.specs.Lawful.{IsCutOf, IsLimitedPick}
use Rattle.nvme_arbiter.specs.declared.settings.Mechanism.TheVariants.{RoundRobin, Weighted}
use Rattle.nvme_arbiter.proofs.NextLemmas.{Below, below_rest, rest_ascends}

-- ---- one of two
pub or_some : (a b : Option Pick) (x : Pick) → option_or a b ≡ Some x → (a ≡ Some x) ⊎ ((a ≡ None) × (b ≡ Some x))
or_some None b x h = inr (refl, h)
or_some (Some y) b x h = inl h

pub or_none : {T : Type 0} (a b : Option T) → option_or a b ≡ None → (a ≡ None) × (b ≡ None)
or_none None b h = (refl, h)
or_none (Some y) b h = absurd (cc)

pub none_or : {T : Type 0} (a b : Option T) → a ≡ None → b ≡ None → option_or a b ≡ None
none_or None b h k = k
none_or (Some y) b h k = h

-- ---- what is taken from a queue
pub record IsTaken (fresh : Bool) (number : Seen → ℕ) (queue : Seen) (p : Pick) : Type 0 where
  pub qid : p.qid ≡ queue.qid
  pub few : p.n ≤ number queue
  pub some : 1 ≤ number queue → 1 ≤ p.n
  pub fresh_is : p.fresh ≡ fresh

pub take_from_some : (fresh : Bool) (number : Seen → ℕ) (o : Option Seen) (p : Pick) → take_from fresh number o ≡ Some p → (q : Seen) × (o ≡ Some q) × IsTaken fresh number q p
take_from_some fresh number None p h = absurd (cc)
take_from_some fresh number (Some q) p h =
    let e : record { qid = q.qid; n = number q; fresh = fresh } ≡ p = cc in
    let same : number q ≡ p.n = ap (λ r. r.n) e in
    (q, refl, record { qid = sym (ap (λ r. r.qid) e); few = omega arith; some = λ h. omega arith; fresh_is = sym (ap (λ r. r.fresh) e) })

pub taken_cut : (fresh : Bool) (number : Seen → ℕ) (queue : Seen) (whole p : Pick) → IsTaken fresh number queue whole → IsCutOf whole p → 1 ≤ p.n → IsTaken fresh number queue p
taken_cut fresh number queue whole p t c one =
    let few : whole.n ≤ number queue = t.few in
    let fewer : p.n ≤ whole.n = c.few in
    record { qid = c.qid ∙ t.qid; few = omega arith; some = λ h. one; fresh_is = c.fresh ∙ t.fresh_is }

pub take_from_none : (fresh : Bool) (number : Seen → ℕ) (o : Option Seen) → take_from fresh number o ≡ None → o ≡ None
take_from_none fresh number None h = refl
take_from_none fresh number (Some q) h = absurd (cc)

-- ---- the next queue
lower_keeps : (P : Seen → Type 0) (x : Seen) (o : Option Seen) → P x → IfSome o P → P (lower x o)
lower_keeps P x None h k = h
lower_keeps P x (Some t) h k = elim (nat_lt t.qid x.qid) as (λ b. P (cond b t x)) [ true ↦ k | false ↦ h ]

pub IfSome-least : (P : Seen → Type 0) (xs : List Seen) → All P xs → IfSome (least xs) P
IfSome-least P [] a = tt
IfSome-least P (x ∷ xs) a = lower_keeps P x (least xs) (All-head P x xs a) (IfSome-least P xs (All-tail P x xs a))

IfSome-or : (P : Seen → Type 0) (a b : Option Seen) → IfSome a P → IfSome b P → IfSome (option_or a b) P
IfSome-or P None b h k = k
IfSome-or P (Some x) b h k = h

-- what holds of each queue holds of the next
pub IfSome-next : (P : Seen → Type 0) (last : Option ℕ) (xs : List Seen) → All P xs → IfSome (next last xs) P
IfSome-next P None xs a = IfSome-least P xs a
IfSome-next P (Some l) xs a = IfSome-or P (least (above l xs)) (least xs) (IfSome-least P (above l xs) (All-filter (λ s. nat_lt l s.qid) P xs a)) (IfSome-least P xs a)

pub next_is_one : (P : Seen → Type 0) (last : Option ℕ) (xs : List Seen) (q : Seen) → All P xs → next last xs ≡ Some q → P q
next_is_one P last xs q a e = subst (λ o. IfSome o P) e (IfSome-next P last xs a)

pub next_none : (last : Option ℕ) (xs : List Seen) → next last xs ≡ None → xs ≡ []
next_none last [] h = refl
next_none None (x ∷ xs) h = absurd (cc)
next_none (Some l) (x ∷ xs) h = let e : least (x ∷ xs) ≡ None = (or_none (least (above l (x ∷ xs))) (least (x ∷ xs)) h).1 in absurd (cc)

pub next_nil : (last : Option ℕ) → next last [] ≡ None
next_nil None = refl
next_nil (Some l) = refl

-- ---- the class of the next queue
pub same_class : (c d : Class) → is_class c d ≡ true → c ≡ d
same_class Admin Admin h = refl
same_class Urgent Urgent h = refl
same_class High High h = refl
same_class Medium Medium h = refl
same_class Low Low h = refl
same_class _ _ h = absurd (cc)

pub class_itself : (c : Class) → is_class c c ≡ true
class_itself Admin = refl
class_itself Urgent = refl
class_itself High = refl
class_itself Medium = refl
class_itself Low = refl

-- an identifier finds the queue that has it
pub found_itself : (xs : List Seen) → AllPairs Below xs → All (λ s. find (λ t. t.qid == s.qid) xs ≡ Some s) xs
found_itself [] a = All-nil (λ s. find (λ t. t.qid == s.qid) [] ≡ Some s)
found_itself (x ∷ xs) a =
    All-cons (λ s. find (λ t. t.qid == s.qid) (x ∷ xs) ≡ Some s) x xs
    (cond-true (x.qid == x.qid) _ _ (eq-eqb x.qid x.qid refl))
    (λ k d h.
    let s : Seen = slice_index_or xs k d in
    let apart : x.qid < s.qid = below_rest x xs a k d h in
    cond-false (x.qid == s.qid) _ _ (ne_eqb x.qid s.qid (λ e. omega arith)) ∙ found_itself xs (rest_ascends x xs a) k d h)

-- the next ready queue of a class was seen in that class, and is ready
pub record IsOfClass (class : Class) (seen : List Seen) (s : Seen) : Type 0 where
  pub there : find (λ t. t.qid == s.qid) seen ≡ Some s
  pub class_is : is_class class s.class ≡ true
  pub waits : 0 < s.count

all_of_class : (class : Class) (seen : List Seen) → AllPairs Below seen → All (IsOfClass class seen) (ready_of class seen)
all_of_class class seen a = λ k d h.
    let p : Seen → Bool = λ s. is_class class s.class && nat_lt 0 s.count in
    let s : Seen = slice_index_or (ready_of class seen) k d in
    let parts = and_parts (is_class class s.class) (nat_lt 0 s.count) (filter_passes p seen k d h) in
    record {
      there = All-filter p (λ s. find (λ t. t.qid == s.qid) seen ≡ Some s) seen (found_itself seen a) k d h;
      class_is = parts.0;
      waits = ltb-true 0 s.count parts.1;
    }

pub next_of_class : (class : Class) (last : Option ℕ) (seen : List Seen) (q : Seen) → AllPairs Below seen → next last (ready_of class seen) ≡ Some q → IsOfClass class seen q
next_of_class class last seen q a e = next_is_one (IsOfClass class seen) last (ready_of class seen) q (all_of_class class seen a) e

pub class_of_next : (class : Class) (last : Option ℕ) (seen : List Seen) (q : Seen) → AllPairs Below seen → next last (ready_of class seen) ≡ Some q → class_in seen q.qid ≡ Some class
class_of_next class last seen q a e =
    let is = next_of_class class last seen q a e in
    let there : find (λ t. t.qid == q.qid) seen ≡ Some q = is.there in
    rw there (ap Some (sym (same_class class q.class is.class_is)))

-- ---- the four cases
-- a pick that takes a number of commands from the next ready queue of a class
pub record IsFrom (last : Class → Option ℕ) (seen : List Seen) (class : Class) (fresh : Bool) (number : Seen → ℕ) (p : Pick) : Type 0 where
  pub queue : Seen
  pub next_is : next (last class) (ready_of class seen) ≡ Some queue
  pub taken_is : IsTaken fresh number queue p

pub from_class : (last : Class → Option ℕ) (seen : List Seen) (class : Class) (fresh : Bool) (number : Seen → ℕ) (p : Pick) → take_from fresh number (next (last class) (ready_of class seen)) ≡ Some p → IsFrom last seen class fresh number p
from_class last seen class fresh number p h =
    let t = take_from_some fresh number (next (last class) (ready_of class seen)) p h in
    record { queue = t.0; next_is = t.1; taken_is = t.2 }

-- a pick of a level
pub record IsOfLevel (s : ArbitrationFields) (last : Class → Option ℕ) (used : Class → ℕ) (seen : List Seen) (fresh : Bool) (level : Class) (p : Pick) : Type 0 where
  pub level_is : IsLevel level
  pub has_credit : 0 < credit s used fresh level
  pub from : IsFrom last seen level fresh (λ q. min (within_burst (burst_of s) q.count) (credit s used fresh level)) p

pub level_some : (s : ArbitrationFields) (last : Class → Option ℕ) (used : Class → ℕ) (seen : List Seen) (fresh : Bool) (level : Class) (p : Pick) → IsLevel level → level_pick s last used seen fresh level ≡ Some p → IsOfLevel s last used seen fresh level p
level_some s last used seen fresh level p l h =
    let number : Seen → ℕ = λ q. min (within_burst (burst_of s) q.count) (credit s used fresh level) in
    let some = take_from fresh number (next (last level) (ready_of level seen)) in
    elim (cases_Bool (nat_lt 0 (credit s used fresh level))) [
      | inl t ↦ record { level_is = l; has_credit = ltb-true 0 (credit s used fresh level) t; from = from_class last seen level fresh number p (sym (cond-true (nat_lt 0 (credit s used fresh level)) some None t) ∙ h) }
      | inr f ↦ let e : None ≡ Some p = sym (cond-false (nat_lt 0 (credit s used fresh level)) some None f) ∙ h in absurd (cc)
    ]

pub levels_some : (s : ArbitrationFields) (last : Class → Option ℕ) (used : Class → ℕ) (seen : List Seen) (fresh : Bool) (p : Pick) → levels_pick s last used seen fresh ≡ Some p → (level : Class) × IsOfLevel s last used seen fresh level p
levels_some s last used seen fresh p h =
    elim (or_some (level_pick s last used seen fresh High) (option_or (level_pick s last used seen fresh Medium) (level_pick s last used seen fresh Low)) p h) [
      | inl e ↦ (High, level_some s last used seen fresh High p tt e)
      | inr r ↦ elim (or_some (level_pick s last used seen fresh Medium) (level_pick s last used seen fresh Low) p r.1) [
        | inl e ↦ (Medium, level_some s last used seen fresh Medium p tt e)
        | inr e ↦ (Low, level_some s last used seen fresh Low p tt e.1)
      ]
    ]

-- a weighted pick is of the admin queue, an urgent queue or a level
pub data Choice (s : ArbitrationFields) (last : Class → Option ℕ) (used : Class → ℕ) (seen : List Seen) (p : Pick) : Type 0 where
  of_admin : IsFrom last seen Admin false (λ q. 1) p → Choice s last used seen p
  of_urgent : IsFrom last seen Urgent false (λ q. within_burst (burst_of s) q.count) p → Choice s last used seen p
  of_level : (fresh : Bool) (level : Class) → IsOfLevel s last used seen fresh level p → Choice s last used seen p

from_cut : (last : Class → Option ℕ) (seen : List Seen) (class : Class) (fresh : Bool) (number : Seen → ℕ) (whole p : Pick) → IsFrom last seen class fresh number whole → IsCutOf whole p → 1 ≤ p.n → IsFrom last seen class fresh number p
from_cut last seen class fresh number whole p f c one = record { queue = f.queue; next_is = f.next_is; taken_is = taken_cut fresh number f.queue whole p f.taken_is c one }

-- a pick of fewer commands is of the same choice
pub choice_cut : (s : ArbitrationFields) (last : Class → Option ℕ) (used : Class → ℕ) (seen : List Seen) (whole p : Pick) → Choice s last used seen whole → IsCutOf whole p → 1 ≤ p.n → Choice s last used seen p
choice_cut s last used seen whole p (of_admin f) c one = of_admin (from_cut last seen Admin false _ whole p f c one)
choice_cut s last used seen whole p (of_urgent f) c one = of_urgent (from_cut last seen Urgent false _ whole p f c one)
choice_cut s last used seen whole p (of_level fresh level f) c one =
    of_level fresh level (record { level_is = f.level_is; has_credit = f.has_credit; from = from_cut last seen level fresh _ whole p f.from c one })

pub weighted_some : (s : ArbitrationFields) (last : Class → Option ℕ) (used : Class → ℕ) (seen : List Seen) (p : Pick) → weighted_pick s last used seen ≡ Some p → Choice s last used seen p
weighted_some s last used seen p h =
    elim (or_some (admin_pick s last used seen) (option_or (urgent_pick s last used seen) (option_or (levels_pick s last used seen false) (levels_pick s last used seen true))) p h) [
      | inl e ↦ of_admin (from_class last seen Admin false (λ q. 1) p e)
      | inr a ↦ elim (or_some (urgent_pick s last used seen) (option_or (levels_pick s last used seen false) (levels_pick s last used seen true)) p a.1) [
        | inl e ↦ of_urgent (from_class last seen Urgent false (λ q. within_burst (burst_of s) q.count) p e)
        | inr u ↦ elim (or_some (levels_pick s last used seen false) (levels_pick s last used seen true) p u.1) [
          | inl e ↦ (let l = levels_some s last used seen false p e in of_level false l.0 l.1)
          | inr e ↦ (let l = levels_some s last used seen true p e.1 in of_level true l.0 l.1)
        ]
      ]
    ]

-- the choice of a pick that is lawful for some limit
pub limited_choice : (first : ArbitrationFields) (past : History) (seen : List Seen) (p : Pick) → IsLimitedPick Weighted first past seen p → Choice (settings_after first past) (λ c. last_served_of c past) (λ l. used_in_round l past) seen p
limited_choice first past seen p h =
    choice_cut (settings_after first past) (λ c. last_served_of c past) (λ l. used_in_round l past) seen h.whole p
    (weighted_some (settings_after first past) (λ c. last_served_of c past) (λ l. used_in_round l past) seen h.whole h.lawful) h.is_cut h.some

-- and under round robin its queue
pub limited_from : (first : ArbitrationFields) (past : History) (seen : List Seen) (p : Pick) → IsLimitedPick RoundRobin first past seen p → (q : Seen) × (next (last_served past) (ready seen) ≡ Some q) × IsTaken false (λ v. cond (v.qid == 0) 1 (within_burst (burst_of (settings_after first past)) v.count)) q p
limited_from first past seen p h =
    let number : Seen → ℕ = λ v. cond (v.qid == 0) 1 (within_burst (burst_of (settings_after first past)) v.count) in
    let t = take_from_some false number (next (last_served past) (ready seen)) h.whole h.lawful in
    (t.0, t.1, taken_cut false number t.0 h.whole p t.2 h.is_cut h.some)

-- ---- nothing is picked where nothing is ready
pub filter_nil : (p : Seen → Bool) (xs : List Seen) → filter p xs ≡ [] → All (λ s. p s ≡ false) xs
filter_nil p [] e = All-nil (λ s. p s ≡ false)
filter_nil p (x ∷ xs) e =
    elim (cases_Bool (p x)) [
      | inl t ↦ let bad : (x ∷ filter p xs) ≡ [] = sym (cond-true (p x) (x ∷ filter p xs) (filter p xs) t) ∙ e in absurd (cc)
      | inr f ↦ All-cons (λ s. p s ≡ false) x xs f (filter_nil p xs (sym (cond-false (p x) (x ∷ filter p xs) (filter p xs) f) ∙ e))
    ]

nil_filter : (p : Seen → Bool) (xs : List Seen) → All (λ s. p s ≡ false) xs → filter p xs ≡ []
nil_filter p [] a = refl
nil_filter p (x ∷ xs) a = cond-false (p x) (x ∷ filter p xs) (filter p xs) (All-head (λ s. p s ≡ false) x xs a) ∙ nil_filter p xs (All-tail (λ s. p s ≡ false) x xs a)

idle_from_classes : (seen : List Seen) → ((c : Class) → ready_of c seen ≡ []) → IsIdle seen
idle_from_classes seen f = λ k d h.
    let s : Seen = slice_index_or seen k d in
    let none : (is_class s.class s.class && nat_lt 0 s.count) ≡ false = filter_nil (λ t. is_class s.class t.class && nat_lt 0 t.count) seen (f s.class) k d h in
    let zero_count : nat_lt 0 s.count ≡ false = rw (class_itself s.class) at none in
    let most = ltb-false 0 s.count zero_count in
    omega arith

classes_from_idle : (seen : List Seen) → IsIdle seen → (c : Class) → ready_of c seen ≡ []
classes_from_idle seen a c = nil_filter (λ t. is_class c t.class && nat_lt 0 t.count) seen (λ k d h.
    let s : Seen = slice_index_or seen k d in
    let zero_count : s.count ≡ 0 = a k d h in
    and_right (is_class c s.class) (nat_lt 0 s.count) (le-ltb 0 s.count (omega arith)))

weights_count : (s : ArbitrationFields) (level : Class) → IsLevel level → 0 < weight_of s level
weights_count s High l = omega arith
weights_count s Medium l = omega arith
weights_count s Low l = omega arith
weights_count s Admin l = absurd l
weights_count s Urgent l = absurd l

level_none : (s : ArbitrationFields) (last : Class → Option ℕ) (used : Class → ℕ) (seen : List Seen) (level : Class) → IsLevel level → level_pick s last used seen true level ≡ None → ready_of level seen ≡ []
level_none s last used seen level l h =
    let number : Seen → ℕ = λ q. min (within_burst (burst_of s) q.count) (weight_of s level) in
    let e : take_from true number (next (last level) (ready_of level seen)) ≡ None = sym (cond-true (nat_lt 0 (weight_of s level)) (take_from true number (next (last level) (ready_of level seen))) None (lt-ltb 0 (weight_of s level) (weights_count s level l))) ∙ h in
    next_none (last level) (ready_of level seen) (take_from_none true number (next (last level) (ready_of level seen)) e)

none_level : (s : ArbitrationFields) (last : Class → Option ℕ) (used : Class → ℕ) (seen : List Seen) (fresh : Bool) (level : Class) → next (last level) (ready_of level seen) ≡ None → level_pick s last used seen fresh level ≡ None
none_level s last used seen fresh level h =
    let number : Seen → ℕ = λ q. min (within_burst (burst_of s) q.count) (credit s used fresh level) in
    let none : take_from fresh number (next (last level) (ready_of level seen)) ≡ None = ap (take_from fresh number) h in
    elim (nat_lt 0 (credit s used fresh level)) as (λ b. cond b (take_from fresh number (next (last level) (ready_of level seen))) None ≡ None) [ true ↦ none | false ↦ refl ]

weighted_none : (s : ArbitrationFields) (last : Class → Option ℕ) (used : Class → ℕ) (seen : List Seen) → weighted_pick s last used seen ≡ None → (c : Class) → ready_of c seen ≡ []
weighted_none s last used seen h c =
    let a = or_none (admin_pick s last used seen) (option_or (urgent_pick s last used seen) (option_or (levels_pick s last used seen false) (levels_pick s last used seen true))) h in
    let u = or_none (urgent_pick s last used seen) (option_or (levels_pick s last used seen false) (levels_pick s last used seen true)) a.1 in
    let l = or_none (levels_pick s last used seen false) (levels_pick s last used seen true) u.1 in
    let high = or_none (level_pick s last used seen true High) (option_or (level_pick s last used seen true Medium) (level_pick s last used seen true Low)) l.1 in
    let low = or_none (level_pick s last used seen true Medium) (level_pick s last used seen true Low) high.1 in
    elim c as (λ c. ready_of c seen ≡ []) [
      | Admin ↦ next_none (last Admin) (ready_of Admin seen) (take_from_none false (λ q. 1) (next (last Admin) (ready_of Admin seen)) a.0)
      | Urgent ↦ next_none (last Urgent) (ready_of Urgent seen) (take_from_none false (λ q. within_burst (burst_of s) q.count) (next (last Urgent) (ready_of Urgent seen)) u.0)
      | High ↦ level_none s last used seen High tt high.0
      | Medium ↦ level_none s last used seen Medium tt low.0
      | Low ↦ level_none s last used seen Low tt low.1
    ]

none_weighted : (s : ArbitrationFields) (last : Class → Option ℕ) (used : Class → ℕ) (seen : List Seen) → ((c : Class) → ready_of c seen ≡ []) → weighted_pick s last used seen ≡ None
none_weighted s last used seen f =
    let none : (c : Class) → next (last c) (ready_of c seen) ≡ None = λ c. ap (next (last c)) (f c) ∙ next_nil (last c) in
    let levels : (fresh : Bool) → levels_pick s last used seen fresh ≡ None = λ fresh.
    none_or (level_pick s last used seen fresh High) (option_or (level_pick s last used seen fresh Medium) (level_pick s last used seen fresh Low))
    (none_level s last used seen fresh High (none High))
    (none_or (level_pick s last used seen fresh Medium) (level_pick s last used seen fresh Low) (none_level s last used seen fresh Medium (none Medium)) (none_level s last used seen fresh Low (none Low))) in
    none_or (admin_pick s last used seen) (option_or (urgent_pick s last used seen) (option_or (levels_pick s last used seen false) (levels_pick s last used seen true)))
    (ap (take_from false (λ q. 1)) (none Admin))
    (none_or (urgent_pick s last used seen) (option_or (levels_pick s last used seen false) (levels_pick s last used seen true))
    (ap (take_from false (λ q. within_burst (burst_of s) q.count)) (none Urgent))
    (none_or (levels_pick s last used seen false) (levels_pick s last used seen true) (levels false) (levels true)))

is_none : (o : Option Pick) → IsNone o → o ≡ None
is_none None h = refl
is_none (Some p) h = absurd (cc)

from_none : (o : Option Pick) → o ≡ None → IsNone o
from_none o e = rw e refl

pub weighted_idle : (s : ArbitrationFields) (last : Class → Option ℕ) (used : Class → ℕ) (seen : List Seen) → IsNone (weighted_pick s last used seen) ↔ IsIdle seen
weighted_idle s last used seen = (
  λ h. idle_from_classes seen (weighted_none s last used seen (is_none (weighted_pick s last used seen) h)),
  λ i. from_none (weighted_pick s last used seen) (none_weighted s last used seen (classes_from_idle seen i)),
)

-- round robin
ready_idle : (seen : List Seen) → ready seen ≡ [] → IsIdle seen
ready_idle seen e = λ k d h. let s : Seen = slice_index_or seen k d in let most = ltb-false 0 s.count (filter_nil (λ t. nat_lt 0 t.count) seen e k d h) in omega arith

idle_ready : (seen : List Seen) → IsIdle seen → ready seen ≡ []
idle_ready seen a = nil_filter (λ t. nat_lt 0 t.count) seen (λ k d h. let s : Seen = slice_index_or seen k d in let zero_count : s.count ≡ 0 = a k d h in le-ltb 0 s.count (omega arith))

pub round_robin_idle : (s : ArbitrationFields) (last : Option ℕ) (seen : List Seen) → IsNone (round_robin_pick s last seen) ↔ IsIdle seen
round_robin_idle s last seen =
    let number : Seen → ℕ = λ q. if q.qid == 0 then 1 else within_burst (burst_of s) q.count in (
      λ h. ready_idle seen (next_none last (ready seen) (take_from_none false number (next last (ready seen)) (is_none (round_robin_pick s last seen) h))),
      λ i. from_none (round_robin_pick s last seen) (ap (take_from false number) (ap (next last) (idle_ready seen i) ∙ next_nil last)),
    )
