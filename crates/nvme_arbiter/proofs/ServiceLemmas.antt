-- The bounds on service.
use Rattle.std.proofs.Common.{◌≡◌, ◌≢◌, ℕ, suc, ◌+◌, ◌-◌, ◌*◌, ◌<◌, ◌≤◌, ◌==◌, ◌⊎◌, inl, inr, ◌&&◌, not, min, Bool, true, false, cond, nat_lt, List, [], ◌∷◌, ◌++◌, length, slice_index_or, refl, sym, ap, subst, ◌∙◌, arith}
use Rattle.std.specs.Prelude.{filter, Option, Some, None, All, IfSome}
use Rattle.std.specs.List.{list_any, list_all}
use Rattle.std.specs.Option.{option_or}
use Rattle.std.proofs.lemmas.Bool.{ltb-true, ltb-false, lt-ltb, le-ltb, cases_Bool, cases_lt, cases_eq, cond-true, cond-false, and_parts, and_from, or_parts, or_cases, eqb-true, eqb-false, eq-eqb, true≢false, both_ways, not-true}
use Rattle.std.proofs.lemmas.List.Elements.{All-head, All-tail, All-nil, All-cons, All-filter, filter_passes}
use Rattle.nvme_arbiter.specs.Limits.{highest_qid}
use Rattle.nvme_arbiter.specs.Settings.{ArbitrationFields, burst_of, weight_of, IsLevel}
use Rattle.nvme_arbiter.specs.declared.pick.Seen.{Seen}
use Rattle.nvme_arbiter.specs.declared.pick.Pick.{Pick}
use Rattle.nvme_arbiter.specs.declared.settings.Class.{Class}
use Rattle.nvme_arbiter.specs.declared.settings.Class.TheVariants.{Admin, Urgent, High, Medium, Low}
use Rattle.nvme_arbiter.specs.declared.settings.Mechanism.TheVariants.{RoundRobin, Weighted}
use Rattle.nvme_arbiter.specs.Observation.{is_class, IsSeen, IsObservation, ready, ready_of, class_in}
use Rattle.nvme_arbiter.specs.Next.{lower, least, above, next}
use Rattle.nvme_arbiter.specs.History.{History, settings_after, last_served, last_served_of, is_in_class, used_in_round}
use Rattle.nvme_arbiter.specs.Rules.{within_burst, credit}
use Rattle.nvme_arbiter.specs.Lawful.{IsLimitedPick, IsLimitedRun}
use Rattle.nvme_arbiter.specs.Laws.{IsRoundOver}
use Rattle.nvme_arbiter.specs.Service.{Turn, events_of, sees_ready, sees_ready_in, is_of_class, is_picked, RoundRobinServes, sees_where_of, ClassServes, is_empty, sees_low_without_urgent, taken_in, LowIsServed}
use Rattle.nvme_arbiter.proofs.Choices.{next_is_one, next_none, next_nil, same_class, IsFrom, Choice, of_admin, of_urgent, of_level, limited_choice, limited_from, filter_nil, IfSome-least}
use Rattle.nvme_arbiter.proofs.Stands.{from_in}
use Rattle.nvme_arbiter.proofs.PickLaws.{limited_over}

-- ---- the least and the next
least_as : (x : Seen) (xs : List Seen) (o : Option Seen) → least xs ≡ o → ((t : Seen) → o ≡ Some t → All (λ s. t.qid ≤ s.qid) xs) → All (λ s. (lower x o).qid ≤ s.qid) (x ∷ xs)
least_as x xs None e f =
    let empty : xs ≡ [] = next_none None xs e in
    All-cons (λ s. x.qid ≤ s.qid) x xs (omega arith) (subst (All (λ s. x.qid ≤ s.qid)) (sym empty) (All-nil (λ s. x.qid ≤ s.qid)))
least_as x xs (Some t) e f =
    let rest = f t refl in
    elim (cases_lt t.qid x.qid) [
      | inl l ↦ subst (λ (y : Seen). All (λ s. y.qid ≤ s.qid) (x ∷ xs)) (sym (cond-true (nat_lt t.qid x.qid) t x (lt-ltb t.qid x.qid l))) (All-cons (λ s. t.qid ≤ s.qid) x xs (omega arith) rest)
      | inr g ↦ subst (λ (y : Seen). All (λ s. y.qid ≤ s.qid) (x ∷ xs)) (sym (cond-false (nat_lt t.qid x.qid) t x (le-ltb t.qid x.qid g))) (All-cons (λ s. x.qid ≤ s.qid) x xs (omega arith) (λ k d h. let m = rest k d h in omega arith))
    ]

pub least_low : (xs : List Seen) (p : Seen) → least xs ≡ Some p → All (λ s. p.qid ≤ s.qid) xs
least_low [] p h = absurd (cc)
least_low (x ∷ xs) p h =
    let e : lower x (least xs) ≡ p = cc in
    subst (λ (y : Seen). All (λ s. y.qid ≤ s.qid) (x ∷ xs)) e (least_as x xs (least xs) refl (λ t a. least_low xs t a))

-- what holds of each that is kept holds of each that passes
unfilter : (p : Seen → Bool) (P : Seen → Type 0) (xs : List Seen) → All P (filter p xs) → All (λ s. p s ≡ true → P s) xs
unfilter p P [] a = All-nil (λ s. p s ≡ true → P s)
unfilter p P (x ∷ xs) a =
    elim (cases_Bool (p x)) [
      | inl t ↦ (let b : All P (x ∷ filter p xs) = subst (All P) (cond-true (p x) (x ∷ filter p xs) (filter p xs) t) a in
          All-cons (λ s. p s ≡ true → P s) x xs (λ e. All-head P x (filter p xs) b) (unfilter p P xs (All-tail P x (filter p xs) b)))
      | inr f ↦ (let b : All P (filter p xs) = subst (All P) (cond-false (p x) (x ∷ filter p xs) (filter p xs) f) a in
          All-cons (λ s. p s ≡ true → P s) x xs (λ e. absurd (both_ways (p x) f e)) (unfilter p P xs b))
    ]

-- what holds of each holds of one with the identifier
at_qid : (P : Seen → Type 0) (q : ℕ) (xs : List Seen) → All P xs → list_any (λ s. s.qid == q) xs ≡ true → (s : Seen) × P s × (s.qid ≡ q)
at_qid P q [] a h = absurd (true≢false (sym h))
at_qid P q (x ∷ xs) a h =
    elim (or_cases (x.qid == q) (list_any (λ s. s.qid == q) xs) h) [
      | inl e ↦ (x, All-head P x xs a, eqb-true x.qid q e)
      | inr r ↦ at_qid P q xs (All-tail P x xs a) r
    ]

or_seen : (a b : Option Seen) (x : Seen) → option_or a b ≡ Some x → (a ≡ Some x) ⊎ ((a ≡ None) × (b ≡ Some x))
or_seen None b x h = inr (refl, h)
or_seen (Some y) b x h = inl h

-- ---- how far a queue is from the one served last
pub dist : ℕ → Option ℕ → ℕ → ℕ
dist base None q = q + 1 - base
dist base (Some l) q = cond (nat_lt l q) (q - l) (q + 1 - base + (highest_qid - l))

dist_low : (base l q : ℕ) → l < q → dist base (Some l) q ≡ q - l
unfolding dist
dist_low base l q h = cond-true (nat_lt l q) (q - l) (q + 1 - base + (highest_qid - l)) (lt-ltb l q h)

dist_high : (base l q : ℕ) → q ≤ l → dist base (Some l) q ≡ q + 1 - base + (highest_qid - l)
unfolding dist
dist_high base l q h = cond-false (nat_lt l q) (q - l) (q + 1 - base + (highest_qid - l)) (le-ltb l q h)

dist_none : (base q : ℕ) → dist base None q ≡ q + 1 - base
unfolding dist
dist_none base q = refl

dist_pos : (base : ℕ) (last : Option ℕ) (q : ℕ) → base ≤ q → 1 ≤ dist base last q
dist_pos base None q h = let e = dist_none base q in omega arith
dist_pos base (Some l) q h = elim (cases_lt l q) [ inl a ↦ (let e = dist_low base l q a in omega arith) | inr b ↦ (let e = dist_high base l q b in omega arith) ]

dist_max : (base : ℕ) (last : Option ℕ) (q : ℕ) → base ≤ 1 → base ≤ q → q ≤ highest_qid → dist base last q ≤ highest_qid + 1 - base
dist_max base None q b h k = let e = dist_none base q in omega arith
dist_max base (Some l) q b h k = elim (cases_lt l q) [ inl a ↦ (let e = dist_low base l q a in omega arith) | inr g ↦ (let e = dist_high base l q g in omega arith) ]

-- identifiers between the least of a class and the highest
pub record IsBetween (base : ℕ) (s : Seen) : Type 0 where
  pub from_base : base ≤ s.qid
  pub to_highest : s.qid ≤ highest_qid

-- the next queue is nearer to a ready one that isn't it
pub nearer : (base : ℕ) (last : Option ℕ) (xs : List Seen) (p : Seen) (q : ℕ) → All (IsBetween base) xs → next last xs ≡ Some p → list_any (λ s. s.qid == q) xs ≡ true → p.qid ≢ q → dist base (Some p.qid) q < dist base last q
nearer base None xs p q b h w n =
    let s = at_qid (λ s. p.qid ≤ s.qid) q xs (least_low xs p h) w in
    let low : p.qid ≤ s.0.qid = s.1 in
    let at : s.0.qid ≡ q = s.2 in
    let between : IsBetween base p = subst (λ o. IfSome o (IsBetween base)) h (IfSome-least (IsBetween base) xs b) in
    let from : base ≤ p.qid = between.from_base in
    let e = dist_low base p.qid q (omega arith) in
    let f = dist_none base q in
    omega arith
nearer base (Some l) xs p q b h w n =
    elim (or_seen (least (above l xs)) (least xs) p h) [
      | inl a ↦ (
          let between : IsBetween base p = subst (λ o. IfSome o (IsBetween base)) a (IfSome-least (IsBetween base) (above l xs) (All-filter (λ s. nat_lt l s.qid) (IsBetween base) xs b)) in
          let top : p.qid ≤ highest_qid = between.to_highest in
          let higher : l < p.qid = ltb-true l p.qid (subst (λ o. IfSome o (λ s. nat_lt l s.qid ≡ true)) a (IfSome-least (λ s. nat_lt l s.qid ≡ true) (above l xs) (filter_passes (λ s. nat_lt l s.qid) xs))) in
          let s = at_qid (λ s. nat_lt l s.qid ≡ true → p.qid ≤ s.qid) q xs (unfilter (λ s. nat_lt l s.qid) (λ s. p.qid ≤ s.qid) xs (least_low (above l xs) p a)) w in
          let at : s.0.qid ≡ q = s.2 in
          elim (cases_lt l q) [
            | inl c ↦ (
                let low : p.qid ≤ s.0.qid = s.1 (lt-ltb l s.0.qid (omega arith)) in
                let e = dist_low base p.qid q (omega arith) in
                let f = dist_low base l q c in
                omega arith)
            | inr g ↦ (
                let e = dist_high base p.qid q (omega arith) in
                let f = dist_high base l q g in
                omega arith)
          ])
      | inr r ↦ (
          let between : IsBetween base p = subst (λ o. IfSome o (IsBetween base)) r.1 (IfSome-least (IsBetween base) xs b) in
          let from : base ≤ p.qid = between.from_base in
          let none : above l xs ≡ [] = next_none None (above l xs) r.0 in
          let s = at_qid (λ s. nat_lt l s.qid ≡ false) q xs (filter_nil (λ s. nat_lt l s.qid) xs none) w in
          let at : s.0.qid ≡ q = s.2 in
          let under : s.0.qid ≤ l = ltb-false l s.0.qid s.1 in
          let t = at_qid (λ s. p.qid ≤ s.qid) q xs (least_low xs p r.1) w in
          let low : p.qid ≤ t.0.qid = t.1 in
          let same : t.0.qid ≡ q = t.2 in
          let e = dist_low base p.qid q (omega arith) in
          let f = dist_high base l q (omega arith) in
          omega arith)
    ]

-- ---- round robin
pub between_all : (seen : List Seen) → IsObservation seen → All (IsBetween 0) seen
between_all seen o = λ k d h. let s = o.each k d h in record { from_base = omega arith; to_highest = s.qid }

round_robin_falls : (first : ArbitrationFields) (past : History) (turns : List Turn) (q : ℕ) → IsLimitedRun RoundRobin first (events_of turns ++ past) → list_all (sees_ready q) turns ≡ true → is_picked q turns ≡ false → dist 0 (last_served (events_of turns ++ past)) q + length turns ≤ dist 0 (last_served past) q
round_robin_falls first past [] q h w n = omega arith
round_robin_falls first past (t ∷ rest) q h w n =
    let before : History = events_of rest ++ past in
    let sees = and_parts (sees_ready q t) (list_all (sees_ready q) rest) w in
    let not_now = or_parts (t.pick.qid == q) (is_picked q rest) n in
    let ih : dist 0 (last_served before) q + length rest ≤ dist 0 (last_served past) q = round_robin_falls first past rest q h.2 sees.1 not_now.1 in
    let s : ArbitrationFields = settings_after first before in
    let number : Seen → ℕ = λ v. cond (v.qid == 0) 1 (within_burst (burst_of s) v.count) in
    let p = limited_from first before t.seen t.pick h.1 in
    let same : t.pick.qid ≡ p.0.qid = p.2.qid in
    let other : p.0.qid ≢ q = λ e. eqb-false t.pick.qid q not_now.0 (same ∙ e) in
    let step : dist 0 (Some p.0.qid) q < dist 0 (last_served before) q =
    nearer 0 (last_served before) (ready t.seen) p.0 q (All-filter (λ v. nat_lt 0 v.count) (IsBetween 0) t.seen (between_all t.seen h.0)) p.1 sees.0 other in
    let now : dist 0 (Some t.pick.qid) q ≡ dist 0 (Some p.0.qid) q = ap (λ n. dist 0 (Some n) q) same in
    omega arith

-- a queue that is seen has an identifier within the limits
seen_within : (t : Turn) (q : ℕ) → IsObservation t.seen → sees_ready q t ≡ true → q ≤ highest_qid
seen_within t q o w =
    let s = at_qid (IsBetween 0) q (ready t.seen) (All-filter (λ v. nat_lt 0 v.count) (IsBetween 0) t.seen (between_all t.seen o)) w in
    subst (λ n. n ≤ highest_qid) s.2 s.1.to_highest

pub round_robin_serves : RoundRobinServes
round_robin_serves first past [] q h w long = absurd (omega arith)
round_robin_serves first past (t ∷ rest) q h w long =
    elim (cases_Bool (is_picked q (t ∷ rest))) [
      | inl y ↦ y
      | inr n ↦ (
          let falls = round_robin_falls first past (t ∷ rest) q h w n in
          let sees = and_parts (sees_ready q t) (list_all (sees_ready q) rest) w in
          let within = seen_within t q h.0 sees.0 in
          let some = dist_pos 0 (last_served (events_of (t ∷ rest) ++ past)) q (omega arith) in
          let most = dist_max 0 (last_served past) q (omega arith) (omega arith) within in
          absurd (omega arith))
    ]

-- ---- a class
-- a weighted pick of a class, from the next ready queue of the class
pub record IsNextOf (past : History) (class : Class) (t : Turn) : Type 0 where
  pub queue : Seen
  pub next_is : next (last_served_of class past) (ready_of class t.seen) ≡ Some queue
  pub qid : t.pick.qid ≡ queue.qid

same_in : (class other : Class) (o : Option Class) → o ≡ Some other → is_in_class class o ≡ true → class ≡ other
same_in class other o e h = same_class class other (sym (ap (is_in_class class) e) ∙ h)

next_from : (past : History) (class other : Class) (t : Turn) (fresh : Bool) (number : Seen → ℕ) → IsObservation t.seen → is_of_class class t ≡ true → IsFrom (λ c. last_served_of c past) t.seen other fresh number t.pick → IsNextOf past class t
next_from past class other t fresh number o w f =
    let same : class ≡ other = same_in class other (class_in t.seen t.pick.qid) (from_in (λ c. last_served_of c past) t.seen other fresh number t.pick o f) w in
    record {
      queue = f.queue;
      next_is = subst (λ c. next (last_served_of c past) (ready_of c t.seen) ≡ Some f.queue) (sym same) f.next_is;
      qid = f.taken_is.qid;
    }

next_chosen : (s : ArbitrationFields) (past : History) (class : Class) (t : Turn) → IsObservation t.seen → is_of_class class t ≡ true → Choice s (λ c. last_served_of c past) (λ l. used_in_round l past) t.seen t.pick → IsNextOf past class t
next_chosen s past class t o w (of_admin f) = next_from past class Admin t false (λ q. 1) o w f
next_chosen s past class t o w (of_urgent f) = next_from past class Urgent t false (λ q. within_burst (burst_of s) q.count) o w f
next_chosen s past class t o w (of_level fresh level f) = next_from past class level t fresh (λ q. min (within_burst (burst_of s) q.count) (credit s (λ l. used_in_round l past) fresh level)) o w f.from

pub next_lawful : (first : ArbitrationFields) (past : History) (class : Class) (t : Turn) → IsObservation t.seen → IsLimitedPick Weighted first past t.seen t.pick → is_of_class class t ≡ true → IsNextOf past class t
next_lawful first past class t o h w =
    next_chosen (settings_after first past) past class t o w (limited_choice first past t.seen t.pick h)

-- the ready queues of a class, by their identifiers
between_class : (class : Class) (seen : List Seen) → IsObservation seen → class ≢ Admin → All (IsBetween 1) (ready_of class seen)
between_class class seen o n = λ k d h.
    let s : Seen = slice_index_or (ready_of class seen) k d in
    let p : Seen → Bool = λ v. is_class class v.class && nat_lt 0 v.count in
    let is : IsSeen s = All-filter p IsSeen seen o.each k d h in
    let of : is_class class s.class ≡ true = (and_parts (is_class class s.class) (nat_lt 0 s.count) (filter_passes p seen k d h)).0 in
    record {
      from_base = elim (cases_eq s.qid 0) [ inl z ↦ absurd (n (same_class class s.class of ∙ is.admin.1 z)) | inr m ↦ omega arith ];
      to_highest = is.qid;
    }

admin_only : (seen : List Seen) → IsObservation seen → All (λ s. s.qid ≡ 0) (ready_of Admin seen)
admin_only seen o = λ k d h.
    let s : Seen = slice_index_or (ready_of Admin seen) k d in
    let p : Seen → Bool = λ v. is_class Admin v.class && nat_lt 0 v.count in
    let is : IsSeen s = All-filter p IsSeen seen o.each k d h in
    let of : is_class Admin s.class ≡ true = (and_parts (is_class Admin s.class) (nat_lt 0 s.count) (filter_passes p seen k d h)).0 in
    is.admin.0 (sym (same_class Admin s.class of))

sees_then : (class : Class) (q : ℕ) (t : Turn) → sees_where_of class q t ≡ true → is_of_class class t ≡ true → sees_ready_in class q t ≡ true
sees_then class q t h w =
    elim (cases_Bool (sees_ready_in class q t)) [
      | inl y ↦ y
      | inr n ↦ (let bad : not (is_of_class class t && not (sees_ready_in class q t)) ≡ false = ap not (and_from (is_of_class class t) (not (sees_ready_in class q t)) w (ap not n)) in
          absurd (both_ways (sees_where_of class q t) bad h))
    ]

not_here : (class : Class) (q : ℕ) (t : Turn) → (is_of_class class t && (t.pick.qid == q)) ≡ false → is_of_class class t ≡ true → t.pick.qid ≢ q
not_here class q t n w e = both_ways (is_of_class class t && (t.pick.qid == q)) n (and_from (is_of_class class t) (t.pick.qid == q) w (eq-eqb t.pick.qid q e))

class_falls : (first : ArbitrationFields) (past : History) (turns : List Turn) (class : Class) (q : ℕ) → class ≢ Admin → IsLimitedRun Weighted first (events_of turns ++ past) → list_all (sees_where_of class q) turns ≡ true → list_any (λ t. is_of_class class t && (t.pick.qid == q)) turns ≡ false → dist 1 (last_served_of class (events_of turns ++ past)) q + length (filter (is_of_class class) turns) ≤ dist 1 (last_served_of class past) q
class_falls first past [] class q na h w n = omega arith
class_falls first past (t ∷ rest) class q na h w n =
    let before : History = events_of rest ++ past in
    let sees = and_parts (sees_where_of class q t) (list_all (sees_where_of class q) rest) w in
    let not_now = or_parts (is_of_class class t && (t.pick.qid == q)) (list_any (λ t. is_of_class class t && (t.pick.qid == q)) rest) n in
    let ih : dist 1 (last_served_of class before) q + length (filter (is_of_class class) rest) ≤ dist 1 (last_served_of class past) q = class_falls first past rest class q na h.2 sees.1 not_now.1 in
    elim (cases_Bool (is_of_class class t)) [
      | inl y ↦ (
          let p = next_lawful first before class t h.0 h.1 y in
          let other : p.queue.qid ≢ q = λ e. not_here class q t not_now.0 y (p.qid ∙ e) in
          let step : dist 1 (Some p.queue.qid) q < dist 1 (last_served_of class before) q =
          nearer 1 (last_served_of class before) (ready_of class t.seen) p.queue q (between_class class t.seen h.0 na) p.next_is (sees_then class q t sees.0 y) other in
          let last_is : last_served_of class (events_of (t ∷ rest) ++ past) ≡ Some t.pick.qid = cond-true (is_of_class class t) (Some t.pick.qid) (last_served_of class before) y in
          let now : dist 1 (last_served_of class (events_of (t ∷ rest) ++ past)) q ≡ dist 1 (Some p.queue.qid) q = ap (λ o. dist 1 o q) last_is ∙ ap (λ n. dist 1 (Some n) q) p.qid in
          let more : length (filter (is_of_class class) (t ∷ rest)) ≡ suc (length (filter (is_of_class class) rest)) = ap length (cond-true (is_of_class class t) (t ∷ filter (is_of_class class) rest) (filter (is_of_class class) rest) y) in
          omega arith)
      | inr f ↦ (
          let last_is : last_served_of class (events_of (t ∷ rest) ++ past) ≡ last_served_of class before = cond-false (is_of_class class t) (Some t.pick.qid) (last_served_of class before) f in
          let now : dist 1 (last_served_of class (events_of (t ∷ rest) ++ past)) q ≡ dist 1 (last_served_of class before) q = ap (λ o. dist 1 o q) last_is in
          let same : length (filter (is_of_class class) (t ∷ rest)) ≡ length (filter (is_of_class class) rest) = ap length (cond-false (is_of_class class t) (t ∷ filter (is_of_class class) rest) (filter (is_of_class class) rest) f) in
          omega arith)
    ]

-- the admin queue is the only one of its class
admin_stays : (first : ArbitrationFields) (past : History) (turns : List Turn) (q : ℕ) → IsLimitedRun Weighted first (events_of turns ++ past) → list_all (sees_where_of Admin q) turns ≡ true → list_any (λ t. is_of_class Admin t && (t.pick.qid == q)) turns ≡ false → length (filter (is_of_class Admin) turns) ≡ 0
admin_stays first past [] q h w n = refl
admin_stays first past (t ∷ rest) q h w n =
    let before : History = events_of rest ++ past in
    let sees = and_parts (sees_where_of Admin q t) (list_all (sees_where_of Admin q) rest) w in
    let not_now = or_parts (is_of_class Admin t && (t.pick.qid == q)) (list_any (λ t. is_of_class Admin t && (t.pick.qid == q)) rest) n in
    let ih = admin_stays first past rest q h.2 sees.1 not_now.1 in
    elim (cases_Bool (is_of_class Admin t)) [
      | inl y ↦ (
          let p = next_lawful first before Admin t h.0 h.1 y in
          let only = admin_only t.seen h.0 in
          let zero_picked : p.queue.qid ≡ 0 = next_is_one (λ s. s.qid ≡ 0) (last_served_of Admin before) (ready_of Admin t.seen) p.queue only p.next_is in
          let s = at_qid (λ s. s.qid ≡ 0) q (ready_of Admin t.seen) only (sees_then Admin q t sees.0 y) in
          absurd (not_here Admin q t not_now.0 y (p.qid ∙ (zero_picked ∙ (sym s.1 ∙ s.2)))))
      | inr f ↦ ap length (cond-false (is_of_class Admin t) (t ∷ filter (is_of_class Admin) rest) (filter (is_of_class Admin) rest) f) ∙ ih
    ]

-- a class that picks sees its queue
class_within : (first : ArbitrationFields) (past : History) (turns : List Turn) (class : Class) (q : ℕ) → class ≢ Admin → IsLimitedRun Weighted first (events_of turns ++ past) → list_all (sees_where_of class q) turns ≡ true → 0 < length (filter (is_of_class class) turns) → (1 ≤ q) × (q ≤ highest_qid)
class_within first past [] class q na h w l = absurd (omega arith)
class_within first past (t ∷ rest) class q na h w l =
    let sees = and_parts (sees_where_of class q t) (list_all (sees_where_of class q) rest) w in
    elim (cases_Bool (is_of_class class t)) [
      | inl y ↦ (let s = at_qid (IsBetween 1) q (ready_of class t.seen) (between_class class t.seen h.0 na) (sees_then class q t sees.0 y) in
          (subst (λ n. 1 ≤ n) s.2 s.1.from_base, subst (λ n. n ≤ highest_qid) s.2 s.1.to_highest))
      | inr f ↦ class_within first past rest class q na h.2 sees.1 (subst (λ n. 0 < n) (ap length (cond-false (is_of_class class t) (t ∷ filter (is_of_class class) rest) (filter (is_of_class class) rest) f)) l)
    ]

other_serves : (first : ArbitrationFields) (past : History) (turns : List Turn) (class : Class) (q : ℕ) → class ≢ Admin → IsLimitedRun Weighted first (events_of turns ++ past) → list_all (sees_where_of class q) turns ≡ true → highest_qid ≤ length (filter (is_of_class class) turns) → list_any (λ t. is_of_class class t && (t.pick.qid == q)) turns ≡ false → ⊥
other_serves first past turns class q na h w long n =
    let falls = class_falls first past turns class q na h w n in
    let within = class_within first past turns class q na h w (omega arith) in
    let low : 1 ≤ q = within.0 in
    let high : q ≤ highest_qid = within.1 in
    let some = dist_pos 1 (last_served_of class (events_of turns ++ past)) q low in
    let most = dist_max 1 (last_served_of class past) q (omega arith) low high in
    omega arith

not_served : (first : ArbitrationFields) (past : History) (turns : List Turn) (class : Class) (q : ℕ) → IsLimitedRun Weighted first (events_of turns ++ past) → list_all (sees_where_of class q) turns ≡ true → highest_qid ≤ length (filter (is_of_class class) turns) → list_any (λ t. is_of_class class t && (t.pick.qid == q)) turns ≡ false → ⊥
not_served first past turns Admin q h w long n = let none = admin_stays first past turns q h w n in omega arith
not_served first past turns Urgent q h w long n = other_serves first past turns Urgent q (λ e. cc) h w long n
not_served first past turns High q h w long n = other_serves first past turns High q (λ e. cc) h w long n
not_served first past turns Medium q h w long n = other_serves first past turns Medium q (λ e. cc) h w long n
not_served first past turns Low q h w long n = other_serves first past turns Low q (λ e. cc) h w long n

pub class_serves : ClassServes
class_serves first past turns class q h w long =
    elim (cases_Bool (list_any (λ t. is_of_class class t && (t.pick.qid == q)) turns)) [ inl y ↦ y | inr n ↦ absurd (not_served first past turns class q h w long n) ]

-- ---- low behind high and medium
-- before the one fresh pick that can come
record IsBefore (wh wm sh sm uh um : ℕ) : Type 0 where
  pub high : sh ≤ uh
  pub medium : sm ≤ um
  pub high_within : sh ≤ wh
  pub medium_within : sm ≤ wm

-- after it
record IsAfter (wh wm sh sm uh um ul : ℕ) : Type 0 where
  pub high : sh ≤ wh + uh
  pub medium : sm ≤ wm + um
  pub high_within : uh ≤ wh
  pub medium_within : um ≤ wm
  pub low : ul ≡ 0

Phase : ℕ → ℕ → ℕ → ℕ → ℕ → ℕ → ℕ → Type 0
Phase wh wm sh sm uh um ul = IsBefore wh wm sh sm uh um ⊎ IsAfter wh wm sh sm uh um ul

phase_first : (wh wm uh um ul : ℕ) → Phase wh wm 0 0 uh um ul
unfolding Phase
phase_first wh wm uh um ul = inl (record { high = omega arith; medium = omega arith; high_within = omega arith; medium_within = omega arith })

phase_high : (wh wm sh sm uh um ul n : ℕ) → Phase wh wm sh sm uh um ul → 0 < wh - uh → n ≤ wh - uh → Phase wh wm (n + sh) (0 + sm) (n + uh) (0 + um) (0 + ul)
unfolding Phase
phase_high wh wm sh sm uh um ul n (inl b) c l = let x = b.high in let y = b.medium in let z = b.medium_within in inl (record { high = omega arith; medium = omega arith; high_within = omega arith; medium_within = omega arith })
phase_high wh wm sh sm uh um ul n (inr a) c l = let x = a.high in let y = a.medium in let z = a.medium_within in let v = a.low in inr (record { high = omega arith; medium = omega arith; high_within = omega arith; medium_within = omega arith; low = omega arith })

phase_medium : (wh wm sh sm uh um ul n : ℕ) → Phase wh wm sh sm uh um ul → 0 < wm - um → n ≤ wm - um → Phase wh wm (0 + sh) (n + sm) (0 + uh) (n + um) (0 + ul)
unfolding Phase
phase_medium wh wm sh sm uh um ul n (inl b) c l = let x = b.high in let y = b.medium in let z = b.high_within in inl (record { high = omega arith; medium = omega arith; high_within = omega arith; medium_within = omega arith })
phase_medium wh wm sh sm uh um ul n (inr a) c l = let x = a.high in let y = a.medium in let z = a.high_within in let v = a.low in inr (record { high = omega arith; medium = omega arith; high_within = omega arith; medium_within = omega arith; low = omega arith })

phase_high_fresh : (wh wm sh sm uh um ul n : ℕ) → Phase wh wm sh sm uh um ul → 0 < ul → n ≤ wh → Phase wh wm (n + sh) (0 + sm) (n + 0) (0 + 0) (0 + 0)
unfolding Phase
phase_high_fresh wh wm sh sm uh um ul n (inl b) c l = let x = b.high_within in let y = b.medium_within in inr (record { high = omega arith; medium = omega arith; high_within = omega arith; medium_within = omega arith; low = omega arith })
phase_high_fresh wh wm sh sm uh um ul n (inr a) c l = let v = a.low in absurd (omega arith)

phase_medium_fresh : (wh wm sh sm uh um ul n : ℕ) → Phase wh wm sh sm uh um ul → 0 < ul → n ≤ wm → Phase wh wm (0 + sh) (n + sm) (0 + 0) (n + 0) (0 + 0)
unfolding Phase
phase_medium_fresh wh wm sh sm uh um ul n (inl b) c l = let x = b.high_within in let y = b.medium_within in inr (record { high = omega arith; medium = omega arith; high_within = omega arith; medium_within = omega arith; low = omega arith })
phase_medium_fresh wh wm sh sm uh um ul n (inr a) c l = let v = a.low in absurd (omega arith)

phase_bound : (wh wm sh sm uh um ul : ℕ) → Phase wh wm sh sm uh um ul → sh + sm ≤ 2 * (wh + wm)
unfolding Phase
phase_bound wh wm sh sm uh um ul (inl b) = let x = b.high_within in let y = b.medium_within in omega arith
phase_bound wh wm sh sm uh um ul (inr a) = let x = a.high in let y = a.medium in let z = a.high_within in let w = a.medium_within in omega arith

-- the phase after a stretch
PhaseOf : ArbitrationFields → History → List Turn → Type 0
PhaseOf s now turns = Phase (weight_of s High) (weight_of s Medium) (taken_in High turns) (taken_in Medium turns) (used_in_round High now) (used_in_round Medium now) (used_in_round Low now)

-- the same with what a pick of a class takes written out
StepOf : ArbitrationFields → History → List Turn → Option Class → ℕ → Bool → Type 0
StepOf s before rest o n fresh = Phase (weight_of s High) (weight_of s Medium)
    (cond (is_in_class High o) n 0 + taken_in High rest) (cond (is_in_class Medium o) n 0 + taken_in Medium rest)
    (cond (is_in_class High o) n 0 + cond fresh 0 (used_in_round High before)) (cond (is_in_class Medium o) n 0 + cond fresh 0 (used_in_round Medium before)) (cond (is_in_class Low o) n 0 + cond fresh 0 (used_in_round Low before))

step_level : (s : ArbitrationFields) (before : History) (rest : List Turn) (fresh : Bool) (level : Class) (n : ℕ) → PhaseOf s before rest → IsLevel level → level ≢ Low → 0 < credit s (λ l. used_in_round l before) fresh level → n ≤ credit s (λ l. used_in_round l before) fresh level → (fresh ≡ true → 0 < used_in_round Low before) → StepOf s before rest (Some level) n fresh
unfolding PhaseOf StepOf
step_level s before rest fresh Admin n h l na c m k = absurd l
step_level s before rest fresh Urgent n h l na c m k = absurd l
step_level s before rest fresh Low n h l na c m k = absurd (na refl)
step_level s before rest false High n h l na c m k = phase_high (s.high + 1) (s.medium + 1) (taken_in High rest) (taken_in Medium rest) (used_in_round High before) (used_in_round Medium before) (used_in_round Low before) n h c m
step_level s before rest true High n h l na c m k = phase_high_fresh (s.high + 1) (s.medium + 1) (taken_in High rest) (taken_in Medium rest) (used_in_round High before) (used_in_round Medium before) (used_in_round Low before) n h (k refl) m
step_level s before rest false Medium n h l na c m k = phase_medium (s.high + 1) (s.medium + 1) (taken_in High rest) (taken_in Medium rest) (used_in_round High before) (used_in_round Medium before) (used_in_round Low before) n h c m
step_level s before rest true Medium n h l na c m k = phase_medium_fresh (s.high + 1) (s.medium + 1) (taken_in High rest) (taken_in Medium rest) (used_in_round High before) (used_in_round Medium before) (used_in_round Low before) n h (k refl) m

empty_is : (xs : List Seen) → is_empty xs ≡ true → xs ≡ []
empty_is [] h = refl
empty_is (x ∷ xs) h = absurd (true≢false (sym h))

not_empty_is : (xs : List Seen) → is_empty xs ≡ false → xs ≢ []
not_empty_is xs h e = true≢false (sym (ap is_empty e) ∙ h)

from_nothing : (last : Class → Option ℕ) (seen : List Seen) (class : Class) (fresh : Bool) (number : Seen → ℕ) (p : Pick) → ready_of class seen ≡ [] → IsFrom last seen class fresh number p → ⊥
from_nothing last seen class fresh number p e f =
    let none : None ≡ Some f.queue = sym (next_nil (last class)) ∙ (sym (ap (next (last class)) e) ∙ f.next_is) in cc

step_chosen : (s : ArbitrationFields) (before : History) (rest : List Turn) (t : Turn) → PhaseOf s before rest → IsObservation t.seen → sees_low_without_urgent t ≡ true → is_of_class Low t ≡ false → (t.pick.fresh ≡ true → IsRoundOver s (λ l. used_in_round l before) t.seen) → Choice s (λ c. last_served_of c before) (λ l. used_in_round l before) t.seen t.pick → StepOf s before rest (class_in t.seen t.pick.qid) t.pick.n t.pick.fresh
step_chosen s before rest t h o w nl over (of_admin f) =
    let a = and_parts (is_empty (ready_of Admin t.seen)) (is_empty (ready_of Urgent t.seen) && not (is_empty (ready_of Low t.seen))) w in
    absurd (from_nothing (λ c. last_served_of c before) t.seen Admin false (λ q. 1) t.pick (empty_is (ready_of Admin t.seen) a.0) f)
step_chosen s before rest t h o w nl over (of_urgent f) =
    let a = and_parts (is_empty (ready_of Admin t.seen)) (is_empty (ready_of Urgent t.seen) && not (is_empty (ready_of Low t.seen))) w in
    let u = and_parts (is_empty (ready_of Urgent t.seen)) (not (is_empty (ready_of Low t.seen))) a.1 in
    absurd (from_nothing (λ c. last_served_of c before) t.seen Urgent false (λ q. within_burst (burst_of s) q.count) t.pick (empty_is (ready_of Urgent t.seen) u.0) f)
step_chosen s before rest t h o w nl over (of_level fresh level f) =
    let a = and_parts (is_empty (ready_of Admin t.seen)) (is_empty (ready_of Urgent t.seen) && not (is_empty (ready_of Low t.seen))) w in
    let u = and_parts (is_empty (ready_of Urgent t.seen)) (not (is_empty (ready_of Low t.seen))) a.1 in
    let waits : ready_of Low t.seen ≢ [] = not_empty_is (ready_of Low t.seen) (not-true (is_empty (ready_of Low t.seen)) u.1) in
    let used : Class → ℕ = λ l. used_in_round l before in
    let number : Seen → ℕ = λ q. min (within_burst (burst_of s) q.count) (credit s used fresh level) in
    let class_is : class_in t.seen t.pick.qid ≡ Some level = from_in (λ c. last_served_of c before) t.seen level fresh number t.pick o f.from in
    let taken : t.pick.n ≤ number f.from.queue = f.from.taken_is.few in
    let few : t.pick.n ≤ credit s used fresh level = omega arith in
    let spent : fresh ≡ true → 0 < used_in_round Low before = λ e. let x = (over (f.from.taken_is.fresh_is ∙ e)).spent Low tt waits in omega arith in
    let not_low : level ≢ Low = λ e. true≢false (sym (ap (is_in_class Low) class_is ∙ ap (is_class Low) e) ∙ nl) in
    subst (λ c. StepOf s before rest c t.pick.n t.pick.fresh) (sym class_is)
    (subst (λ b. StepOf s before rest (Some level) t.pick.n b) (sym f.from.taken_is.fresh_is)
    (step_level s before rest fresh level t.pick.n h f.level_is not_low f.has_credit few spent))

settings_stay : (first : ArbitrationFields) (past : History) (turns : List Turn) → settings_after first (events_of turns ++ past) ≡ settings_after first past
settings_stay first past [] = refl
settings_stay first past (t ∷ rest) = settings_stay first past rest

low_step : (first : ArbitrationFields) (past : History) (t : Turn) (rest : List Turn) → IsObservation t.seen → IsLimitedPick Weighted first (events_of rest ++ past) t.seen t.pick → sees_low_without_urgent t ≡ true → not (is_of_class Low t) ≡ true → PhaseOf (settings_after first past) (events_of rest ++ past) rest → PhaseOf (settings_after first past) (events_of (t ∷ rest) ++ past) (t ∷ rest)
unfolding PhaseOf StepOf
low_step first past t rest o h w n phase =
    let before : History = events_of rest ++ past in
    let last : Class → Option ℕ = λ c. last_served_of c before in
    let used : Class → ℕ = λ l. used_in_round l before in
    let s : ArbitrationFields = settings_after first past in
    let stay : settings_after first before ≡ s = settings_stay first past rest in
    step_chosen s before rest t phase o w (not-true (is_of_class Low t) n)
    (λ e. subst (λ x. IsRoundOver x used t.seen) stay (limited_over first before t.seen t.pick h e))
    (subst (λ x. Choice x last used t.seen t.pick) stay (limited_choice first before t.seen t.pick h))

low_phase : (first : ArbitrationFields) (past : History) (turns : List Turn) → IsLimitedRun Weighted first (events_of turns ++ past) → list_all sees_low_without_urgent turns ≡ true → list_all (λ t. not (is_of_class Low t)) turns ≡ true → PhaseOf (settings_after first past) (events_of turns ++ past) turns
unfolding PhaseOf
low_phase first past [] h w n = phase_first (weight_of (settings_after first past) High) (weight_of (settings_after first past) Medium) (used_in_round High past) (used_in_round Medium past) (used_in_round Low past)
low_phase first past (t ∷ rest) h w n =
    let sees = and_parts (sees_low_without_urgent t) (list_all sees_low_without_urgent rest) w in
    let not_now = and_parts (not (is_of_class Low t)) (list_all (λ t. not (is_of_class Low t)) rest) n in
    low_step first past t rest h.0 h.1 sees.0 not_now.0 (low_phase first past rest h.2 sees.1 not_now.1)

pub low_is_served : LowIsServed
unfolding PhaseOf
low_is_served first past turns h w n =
    phase_bound (weight_of (settings_after first past) High) (weight_of (settings_after first past) Medium) (taken_in High turns) (taken_in Medium turns) (used_in_round High (events_of turns ++ past)) (used_in_round Medium (events_of turns ++ past)) (used_in_round Low (events_of turns ++ past)) (low_phase first past turns h w n)
