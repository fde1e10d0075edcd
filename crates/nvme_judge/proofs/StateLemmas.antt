-- A state that lawful picks leave can be that of a head: each pick is of a queue that was seen, and takes no more than the credit of its level.
use Rattle.std.proofs.Common.{◌≡◌, ℕ, ◌+◌, ◌≤◌, ◌==◌, ◌&&◌, ◌||◌, Bool, true, false, List, [], ◌∷◌, find, inl, inr, refl, sym, ap, subst, ◌∙◌, arith}
use Rattle.std.specs.Prelude.{Option, Some, None, IfSome, is_some, nat_le, option_map, ◌↔◌, if◌then◌else◌}
use Rattle.std.proofs.lemmas.Bool.{cases_Bool, cond-true, cond-false, eqb-true, eq-eqb, le-leb, and_from}
use Rattle.nvme_arbiter.specs.Limits.{highest_qid}
use Rattle.nvme_arbiter.specs.Settings.{ArbitrationFields, weight_of, IsLevel}
use Rattle.nvme_arbiter.specs.Observation.{IsSeen, IsObservation, class_in}
use Rattle.nvme_arbiter.specs.ByClass.{same_for_all}
use Rattle.nvme_arbiter.specs.History.{Picked, Changed, History, settings_after, last_served, last_served_of, is_in_class, used_in_round}
use Rattle.nvme_arbiter.specs.Lawful.{IsLimitedPick, IsLimitedRun}
use Rattle.nvme_arbiter.specs.Standing.{StandsAt, last_of, used_of}
use Rattle.nvme_arbiter.specs.declared.settings.Class.{Class}
use Rattle.nvme_arbiter.specs.declared.settings.Class.TheVariants.{Admin, Urgent, High, Medium, Low}
use Rattle.nvme_arbiter.specs.declared.settings.Mechanism.{Mechanism}
use Rattle.nvme_arbiter.specs.declared.settings.Mechanism.TheVariants.{RoundRobin, Weighted}
use Rattle.nvme_arbiter.specs.declared.kept.Kept.{Kept}
use Rattle.nvme_arbiter.specs.declared.pick.Seen.{Seen}
use Rattle.nvme_arbiter.specs.declared.pick.Pick.{Pick}
use Rattle.nvme_arbiter.proofs.Choices.{same_class}
use Rattle.nvme_arbiter.proofs.NextLemmas.{IfSome-find}
use Rattle.nvme_arbiter.proofs.PickLaws.{limited_are_measured}
use Rattle.nvme_arbiter.proofs.RoundLaws.{used_within}
use Rattle.nvme_judge.specs.Starts.{can_serve, can_be_last, last_fits, can_use, used_fits, CanBegin, KeepsItsOwn, StatesCanBegin}

-- ---- the queue of a pick
record IsServed (seen : List Seen) (qid : ℕ) : Type 0 where
  pub queue : Seen
  pub is_found : find (λ s. s.qid == qid) seen ≡ Some queue
  pub is_seen : IsSeen queue
  pub its_qid : queue.qid ≡ qid

found_qid : (qid : ℕ) (xs : List Seen) (s : Seen) → find (λ t. t.qid == qid) xs ≡ Some s → s.qid ≡ qid
found_qid qid [] s h = absurd (cc)
found_qid qid (x ∷ xs) s h =
    elim (cases_Bool (x.qid == qid)) [
      | inl y ↦ let e : Some x ≡ Some s = sym (cond-true (x.qid == qid) (Some x) (find (λ t. t.qid == qid) xs) y) ∙ h in
          let same : x ≡ s = cc in subst (λ (q : Seen). q.qid ≡ qid) same (eqb-true x.qid qid y)
      | inr f ↦ found_qid qid xs s (sym (cond-false (x.qid == qid) (Some x) (find (λ t. t.qid == qid) xs) f) ∙ h)
    ]

served_by : (m : Mechanism) (first : ArbitrationFields) (past : History) (seen : List Seen) (pick : Pick) → IsObservation seen → IsLimitedPick m first past seen pick → IsServed seen pick.qid
served_by m first past seen pick o h =
    let is = limited_are_measured m first past seen pick o h in
    record {
      queue = is.queue;
      is_found = is.was_seen;
      is_seen = subst (λ (q : Option Seen). IfSome q IsSeen) is.was_seen (IfSome-find IsSeen (λ s. s.qid == pick.qid) seen o.each);
      its_qid = found_qid pick.qid seen is.queue is.was_seen;
    }

-- ---- its identifier
io_range : (qid : ℕ) → qid ≤ highest_qid → (qid ≡ 0 → ⊥) → (nat_le 1 qid && nat_le qid highest_qid) ≡ true
io_range qid low some =
    let least : nat_le 1 qid ≡ true = le-leb 1 qid (omega (arith, some)) in
    let most : nat_le qid highest_qid ≡ true = le-leb qid highest_qid low in and_from (nat_le 1 qid) (nat_le qid highest_qid) least most

can_by : (class : Class) (qid : ℕ) → qid ≤ highest_qid → ((class ≡ Admin) ↔ (qid ≡ 0)) → can_serve class (Some qid) ≡ true
can_by Admin qid low a = eq-eqb qid 0 (a.0 refl)
can_by Urgent qid low a = io_range qid low (λ e. let other : Urgent ≡ Admin = a.1 e in absurd (cc))
can_by High qid low a = io_range qid low (λ e. let other : High ≡ Admin = a.1 e in absurd (cc))
can_by Medium qid low a = io_range qid low (λ e. let other : Medium ≡ Admin = a.1 e in absurd (cc))
can_by Low qid low a = io_range qid low (λ e. let other : Low ≡ Admin = a.1 e in absurd (cc))

can_be_served : (class : Class) (seen : List Seen) (qid : ℕ) → IsServed seen qid → is_in_class class (class_in seen qid) ≡ true → can_serve class (Some qid) ≡ true
can_be_served class seen qid s h =
    let its : class_in seen qid ≡ Some s.queue.class = ap (λ (o : Option Seen). option_map (λ q. q.class) o) s.is_found in
    let same : class ≡ s.queue.class = same_class class s.queue.class (subst (λ (o : Option Class). is_in_class class o ≡ true) its h) in
    let can : can_serve s.queue.class (Some s.queue.qid) ≡ true = can_by s.queue.class s.queue.qid s.is_seen.qid s.is_seen.admin in
    subst (λ (c : Class). can_serve c (Some qid) ≡ true) (sym same) (subst (λ (q : ℕ). can_serve s.queue.class (Some q) ≡ true) s.its_qid can)

none_serves : (class : Class) → can_serve class None ≡ true
none_serves Admin = refl
none_serves Urgent = refl
none_serves High = refl
none_serves Medium = refl
none_serves Low = refl

can_serve_last : (m : Mechanism) (first : ArbitrationFields) (past : History) (class : Class) → IsLimitedRun m first past → can_serve class (last_served_of class past) ≡ true
can_serve_last m first [] class run = none_serves class
can_serve_last m first (Changed settings ∷ past) class run = can_serve_last m first past class run
can_serve_last m first (Picked seen pick ∷ past) class run =
    elim (cases_Bool (is_in_class class (class_in seen pick.qid))) [
      | inl y ↦ rw y (can_be_served class seen pick.qid (served_by m first past seen pick run.0 run.1) y)
      | inr f ↦ rw f (can_serve_last m first past class run.2)
    ]

can_last : (m : Mechanism) (first : ArbitrationFields) (past : History) → IsLimitedRun m first past → can_be_last (last_served past) ≡ true
can_last m first [] run = refl
can_last m first (Changed settings ∷ past) run = can_last m first past run
can_last m first (Picked seen pick ∷ past) run =
    let s = served_by m first past seen pick run.0 run.1 in
    let most : pick.qid ≤ highest_qid = subst (λ (q : ℕ). q ≤ highest_qid) s.its_qid s.is_seen.qid in le-leb pick.qid highest_qid most

-- ---- what is used
or_true : (b : Bool) → (b || true) ≡ true
or_true true = refl
or_true false = refl

plus_none : (n : ℕ) → 0 + n ≡ n
plus_none n = omega arith

used_by : (fresh : Bool) (u : ℕ) (o : Option ℕ) → ((u == 0) || is_some o) ≡ true → (((0 + (if fresh then 0 else u)) == 0) || is_some o) ≡ true
used_by true u o h = refl
used_by false u o h = rw (plus_none u) h

-- nothing is used of a level none of whose queues was served
used_where_served : (past : History) (level : Class) → ((used_in_round level past == 0) || is_some (last_served_of level past)) ≡ true
used_where_served [] level = refl
used_where_served (Changed settings ∷ past) level = refl
used_where_served (Picked seen pick ∷ past) level =
    elim (cases_Bool (is_in_class level (class_in seen pick.qid))) [
      | inl y ↦ rw y (or_true ((pick.n + (if pick.fresh then 0 else used_in_round level past)) == 0))
      | inr f ↦ rw f (used_by pick.fresh (used_in_round level past) (last_served_of level past) (used_where_served past level))
    ]

can_be_used : (first : ArbitrationFields) (past : History) (level : Class) → IsLimitedRun Weighted first past → IsLevel level
    → can_use (weight_of (settings_after first past) level) (last_served_of level past) (used_in_round level past) ≡ true
can_be_used first past level run l =
    let most : nat_le (used_in_round level past) (weight_of (settings_after first past) level) ≡ true = le-leb (used_in_round level past) (weight_of (settings_after first past) level) (used_within first past level run l) in
    and_from (nat_le (used_in_round level past) (weight_of (settings_after first past) level)) ((used_in_round level past == 0) || is_some (last_served_of level past)) most (used_where_served past level)

-- ---- what is kept of it
-- the weighted mechanism keeps the queue served last of each class, and what is used of each level
kept_last : (first : ArbitrationFields) (past : History) (kept : Kept) → IsLimitedRun Weighted first past → StandsAt Weighted first past kept → (class : Class) → can_serve class (last_of kept.last class) ≡ true
kept_last first past kept run stands class = subst (λ (o : Option ℕ). can_serve class o ≡ true) (sym (stands.recalls.0 class)) (can_serve_last Weighted first past class run)

kept_used : (first : ArbitrationFields) (past : History) (kept : Kept) → IsLimitedRun Weighted first past → StandsAt Weighted first past kept → (level : Class) → IsLevel level
    → can_use (weight_of kept.settings level) (last_of kept.last level) (used_of kept.used level) ≡ true
kept_used first past kept run stands level l =
    subst (λ (s : ArbitrationFields). can_use (weight_of s level) (last_of kept.last level) (used_of kept.used level) ≡ true) (sym stands.settings_are)
    (subst (λ (o : Option ℕ). can_use (weight_of (settings_after first past) level) o (used_of kept.used level) ≡ true) (sym (stands.recalls.0 level))
    (subst (λ (n : ℕ). can_use (weight_of (settings_after first past) level) (last_served_of level past) n ≡ true) (sym (stands.recalls.1 level l)) (can_be_used first past level run l)))

weighted_last : (kept : Kept) → kept.last.all ≡ None → ((class : Class) → can_serve class (last_of kept.last class) ≡ true) → last_fits Weighted kept.last ≡ true
weighted_last kept own can =
    let c = kept.last.by_class in
    let ml = and_from (can_serve Medium c.medium) (can_serve Low c.low) (can Medium) (can Low) in
    let h = and_from (can_serve High c.high) (can_serve Medium c.medium && can_serve Low c.low) (can High) ml in
    let u = and_from (can_serve Urgent c.urgent) (can_serve High c.high && (can_serve Medium c.medium && can_serve Low c.low)) (can Urgent) h in
    let a = and_from (can_serve Admin c.admin) (can_serve Urgent c.urgent && (can_serve High c.high && (can_serve Medium c.medium && can_serve Low c.low))) (can Admin) u in
    rw own a

weighted_used : (kept : Kept) → ((level : Class) → IsLevel level → can_use (weight_of kept.settings level) (last_of kept.last level) (used_of kept.used level) ≡ true) → used_fits Weighted kept.settings kept.last kept.used ≡ true
weighted_used kept can =
    let c = kept.last.by_class in
    let ml = and_from (can_use (weight_of kept.settings Medium) c.medium kept.used.medium) (can_use (weight_of kept.settings Low) c.low kept.used.low) (can Medium tt) (can Low tt) in
    and_from (can_use (weight_of kept.settings High) c.high kept.used.high) (can_use (weight_of kept.settings Medium) c.medium kept.used.medium && can_use (weight_of kept.settings Low) c.low kept.used.low) (can High tt) ml

-- round robin keeps the queue served last of all
robin_last : (kept : Kept) → kept.last.by_class ≡ same_for_all None → can_be_last kept.last.all ≡ true → last_fits RoundRobin kept.last ≡ true
robin_last kept own can = rw own (and_from (can_be_last kept.last.all) true can refl)

can_begin : (m : Mechanism) (kept : Kept) → kept.mechanism ≡ m → last_fits m kept.last ≡ true → used_fits m kept.settings kept.last kept.used ≡ true → CanBegin kept
can_begin m kept is last used = record {
  last = subst (λ (n : Mechanism). last_fits n kept.last ≡ true) (sym is) last;
  used = subst (λ (n : Mechanism). used_fits n kept.settings kept.last kept.used ≡ true) (sym is) used;
}

pub states : StatesCanBegin
states RoundRobin first past kept run stands own =
    let can : can_be_last kept.last.all ≡ true = subst (λ (o : Option ℕ). can_be_last o ≡ true) (sym stands.recalls) (can_last RoundRobin first past run) in
    can_begin RoundRobin kept stands.mechanism_is (robin_last kept own.0 can) (rw own.1 refl)
states Weighted first past kept run stands own =
    can_begin Weighted kept stands.mechanism_is (weighted_last kept own (kept_last first past kept run stands)) (weighted_used kept (kept_used first past kept run stands))
