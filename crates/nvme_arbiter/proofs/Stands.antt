-- What an arbiter keeps says what its history says.
use Rattle.std.proofs.Common.{◌≡◌, ℕ, ◌+◌, ◌<◌, ◌≤◌, min, Bool, true, false, List, [], ◌∷◌, refl, sym, ap, subst, ◌∙◌, arith}
use Rattle.std.specs.Prelude.{Option, Some, None, IsNone, IsSomeAnd, ◌↔◌, if◌then◌else◌}
use Rattle.nvme_arbiter.specs.Settings.{ArbitrationFields, burst_of, weight_of, IsLevel}
use Rattle.nvme_arbiter.specs.declared.pick.Seen.{Seen}
use Rattle.nvme_arbiter.specs.declared.pick.Pick.{Pick}
use Rattle.nvme_arbiter.specs.declared.kept.Kept.{Kept}
use Rattle.nvme_arbiter.specs.declared.kept.Last.{Last}
use Rattle.nvme_arbiter.specs.declared.kept.Used.{Used}
use Rattle.nvme_arbiter.specs.declared.settings.Class.{Class}
use Rattle.nvme_arbiter.specs.declared.settings.Class.TheVariants.{Admin, Urgent, High, Medium, Low}
use Rattle.nvme_arbiter.specs.declared.settings.Mechanism.{Mechanism}
use Rattle.nvme_arbiter.specs.declared.settings.Mechanism.TheVariants.{RoundRobin, Weighted}
use Rattle.nvme_arbiter.specs.Observation.{is_class, IsObservation, IsIdle, class_in}
use Rattle.nvme_arbiter.specs.History.{Picked, History, settings_after, last_served_of, is_in_class, used_in_round}
use Rattle.nvme_arbiter.specs.Rules.{within_burst, credit, round_robin_pick, weighted_pick}
use Rattle.nvme_arbiter.specs.Lawful.{lawful_pick, IsCutOf}
use Rattle.nvme_arbiter.specs.Standing.{last_of, used_of, StandsAt, pick_by, pick_of, last_with, used_with, nothing_used, used_before, kept_after, StaysWithin, IsWithinWeight, first_kept}
use Rattle.nvme_arbiter.proofs.ClassLemmas.{of_class_after, of_class_same}
use Rattle.nvme_arbiter.proofs.Choices.{Choice, of_admin, of_urgent, of_level, weighted_some, class_of_next, weighted_idle, round_robin_idle, IsFrom}

-- ---- the pick
three : ℕ → ℕ → ℕ → Class → ℕ
three high medium low High = high
three high medium low Medium = medium
three high medium low Low = low
three high medium low Admin = 0
three high medium low Urgent = 0

-- only what is used of the levels counts
by_three : (s : ArbitrationFields) (last : Class → Option ℕ) (used : Class → ℕ) (seen : List Seen) → weighted_pick s last used seen ≡ weighted_pick s last (three (used High) (used Medium) (used Low)) seen
unfolding three
by_three s last used seen = refl

pub weighted_same : (s : ArbitrationFields) (last last' : Class → Option ℕ) (used used' : Class → ℕ) (seen : List Seen) → ((c : Class) → last c ≡ last' c) → ((level : Class) → IsLevel level → used level ≡ used' level) → weighted_pick s last used seen ≡ weighted_pick s last' used' seen
weighted_same s last last' used used' seen e u =
    let lasts : last ≡ last' = λ i. λ c. e c i in
    ap (λ l. weighted_pick s l used seen) lasts ∙
    (by_three s last' used seen ∙
    (ap (λ n. weighted_pick s last' (three n (used Medium) (used Low)) seen) (u High tt) ∙
    (ap (λ n. weighted_pick s last' (three (used' High) n (used Low)) seen) (u Medium tt) ∙
    (ap (λ n. weighted_pick s last' (three (used' High) (used' Medium) n) seen) (u Low tt) ∙ sym (by_three s last' used' seen)))))

lawful_by : (m : Mechanism) (first : ArbitrationFields) (past : History) (k : Kept) (seen : List Seen) → StandsAt m first past k → pick_by m k seen ≡ lawful_pick m first past seen
lawful_by RoundRobin first past k seen h =
    ap (λ s. round_robin_pick s k.last.all seen) h.settings_are ∙ ap (λ l. round_robin_pick (settings_after first past) l seen) h.recalls
lawful_by Weighted first past k seen h =
    ap (λ s. weighted_pick s (last_of k.last) (used_of k.used) seen) h.settings_are ∙
    weighted_same (settings_after first past) (last_of k.last) (λ c. last_served_of c past) (used_of k.used) (λ l. used_in_round l past) seen h.recalls.0 h.recalls.1

-- what is picked of what is kept is the lawful pick
pub lawful : (m : Mechanism) (first : ArbitrationFields) (past : History) (k : Kept) (seen : List Seen) → StandsAt m first past k → pick_of k seen ≡ lawful_pick m first past seen
lawful m first past k seen h = ap (λ m. pick_by m k seen) h.mechanism_is ∙ lawful_by m first past k seen h

idle_by : (m : Mechanism) (k : Kept) (seen : List Seen) → IsNone (pick_by m k seen) ↔ IsIdle seen
idle_by RoundRobin k seen = round_robin_idle k.settings k.last.all seen
idle_by Weighted k seen = weighted_idle k.settings (last_of k.last) (used_of k.used) seen

pub idle : (k : Kept) (seen : List Seen) → IsNone (pick_of k seen) ↔ IsIdle seen
idle k seen = idle_by k.mechanism k seen

-- ---- after a pick
last_step : (last : Last) (other : Option Class) (class : Class) (qid : ℕ) (r : Option ℕ) → last_of last class ≡ r → last_of (last_with last other qid) class ≡ (if is_in_class class other then Some qid else r)
last_step last None class qid r h = h
last_step last (Some other) class qid r h = of_class_after last.by_class other class (λ v. Some qid) ∙ ap (λ v. if is_class class other then Some qid else v) h

pub used_step : (used : Used) (other : Option Class) (level : Class) (n : ℕ) (fresh : Bool) (u : ℕ) → IsLevel level → used_of used level ≡ u → used_of (used_with (used_before fresh used) other n) level ≡ (if is_in_class level other then n else 0) + (if fresh then 0 else u)
used_step used other Admin n fresh u l h = absurd l
used_step used other Urgent n fresh u l h = absurd l
used_step used (Some High) High n true u l h = omega arith
used_step used (Some High) High n false u l h = omega arith
used_step used _ High n true u l h = omega arith
used_step used _ High n false u l h = omega arith
used_step used (Some Medium) Medium n true u l h = omega arith
used_step used (Some Medium) Medium n false u l h = omega arith
used_step used _ Medium n true u l h = omega arith
used_step used _ Medium n false u l h = omega arith
used_step used (Some Low) Low n true u l h = omega arith
used_step used (Some Low) Low n false u l h = omega arith
used_step used _ Low n true u l h = omega arith
used_step used _ Low n false u l h = omega arith

picked_by : (m : Mechanism) (first : ArbitrationFields) (past : History) (k : Kept) (seen : List Seen) (pick : Pick) → StandsAt m first past k → StandsAt m first (Picked seen pick ∷ past) (kept_after m k (class_in seen pick.qid) pick)
picked_by RoundRobin first past k seen pick h = record { mechanism_is = h.mechanism_is; settings_are = h.settings_are; recalls = refl }
picked_by Weighted first past k seen pick h = record {
  mechanism_is = h.mechanism_is;
  settings_are = h.settings_are;
  recalls = (
    λ class. last_step k.last (class_in seen pick.qid) class pick.qid (last_served_of class past) (h.recalls.0 class),
    λ level l. used_step k.used (class_in seen pick.qid) level pick.n pick.fresh (used_in_round level past) l (h.recalls.1 level l),
  );
}

-- after a pick an arbiter stands at the history with that pick
pub stands_picked : (m : Mechanism) (first : ArbitrationFields) (past : History) (k : Kept) (seen : List Seen) (pick : Pick) → StandsAt m first past k → StandsAt m first (Picked seen pick ∷ past) (kept_after k.mechanism k (class_in seen pick.qid) pick)
stands_picked m first past k seen pick h =
    subst (λ n. StandsAt m first (Picked seen pick ∷ past) (kept_after n k (class_in seen pick.qid) pick)) (sym h.mechanism_is) (picked_by m first past k seen pick h)

nothing_in : (level : Class) → used_of nothing_used level ≡ 0
nothing_in Admin = refl
nothing_in Urgent = refl
nothing_in High = refl
nothing_in Medium = refl
nothing_in Low = refl

-- at first
pub stands_first : (m : Mechanism) (s : ArbitrationFields) → StandsAt m s [] (first_kept m s)
stands_first RoundRobin s = record { mechanism_is = refl; settings_are = refl; recalls = refl }
stands_first Weighted s = record { mechanism_is = refl; settings_are = refl; recalls = (λ class. of_class_same None class, λ level l. nothing_in level) }

-- ---- a level stays within its weight
level_within : (s : ArbitrationFields) (used : Used) (level : Class) (fresh : Bool) (n : ℕ) → 0 < credit s (used_of used) fresh level → n ≤ credit s (used_of used) fresh level → used_of (used_before fresh used) level + n ≤ weight_of s level
level_within s used level true n h k =
    let few : n ≤ weight_of s level = k in
    rw (nothing_in level) (omega arith)
level_within s used level false n h k = omega arith

-- the pick of a class, as its observation shows it
pub from_in : (last : Class → Option ℕ) (seen : List Seen) (class : Class) (fresh : Bool) (number : Seen → ℕ) (p : Pick) → IsObservation seen → IsFrom last seen class fresh number p → class_in seen p.qid ≡ Some class
from_in last seen class fresh number p o f = rw f.taken_is.qid (class_of_next class (last class) seen f.queue o.ascending f.next_is)

within_by : (k : Kept) (seen : List Seen) (p : Pick) → IsObservation seen → Choice k.settings (last_of k.last) (used_of k.used) seen p → StaysWithin k.settings (used_before p.fresh k.used) (class_in seen p.qid) p.n
within_by k seen p o (of_admin f) = rw (from_in (last_of k.last) seen Admin false (λ q. 1) p o f) (λ l. absurd l)
within_by k seen p o (of_urgent f) = rw (from_in (last_of k.last) seen Urgent false (λ q. within_burst (burst_of k.settings) q.count) p o f) (λ l. absurd l)
within_by k seen p o (of_level fresh level f) =
    let number : Seen → ℕ = λ q. min (within_burst (burst_of k.settings) q.count) (credit k.settings (used_of k.used) fresh level) in
    let taken : p.n ≤ number f.from.queue = f.from.taken_is.few in
    let few : p.n ≤ credit k.settings (used_of k.used) fresh level = omega arith in
    rw (from_in (last_of k.last) seen level fresh number p o f.from) (subst (λ b. StaysWithin k.settings (used_before b k.used) (Some level) p.n) (sym f.from.taken_is.fresh_is) (λ l. level_within k.settings k.used level fresh p.n f.has_credit few))

-- what is used stays within for fewer commands too
fewer_within : (s : ArbitrationFields) (used : Used) (class : Option Class) (n m : ℕ) → m ≤ n → StaysWithin s used class n → StaysWithin s used class m
fewer_within s used None n m h w = tt
fewer_within s used (Some class) n m h w = λ l. let x : used_of used class + n ≤ weight_of s class = w l in omega arith

within_for : (m : Mechanism) (k : Kept) (seen : List Seen) (w p : Pick) → IsObservation seen → pick_by m k seen ≡ Some w → IsCutOf w p → IsWithinWeight m k (class_in seen p.qid) p
within_for RoundRobin k seen w p o h c = tt
within_for Weighted k seen w p o h c =
    let whole : StaysWithin k.settings (used_before w.fresh k.used) (class_in seen w.qid) w.n = within_by k seen w o (weighted_some k.settings (last_of k.last) (used_of k.used) seen w h) in
    fewer_within k.settings (used_before p.fresh k.used) (class_in seen p.qid) w.n p.n c.few
    (subst (λ q. StaysWithin k.settings (used_before p.fresh k.used) (class_in seen q) w.n) (sym c.qid)
    (subst (λ b. StaysWithin k.settings (used_before b k.used) (class_in seen w.qid) w.n) (sym c.fresh) whole))

pub within : (k : Kept) (seen : List Seen) (w p : Pick) → IsObservation seen → pick_of k seen ≡ Some w → IsCutOf w p → IsWithinWeight k.mechanism k (class_in seen p.qid) p
within k seen w p o h c = within_for k.mechanism k seen w p o h c

within_some : (k : Kept) (seen : List Seen) (o : Option Pick) (p : Pick) → IsObservation seen → pick_of k seen ≡ o → IsSomeAnd o (λ w. IsCutOf w p) → IsWithinWeight k.mechanism k (class_in seen p.qid) p
within_some k seen None p o e c = absurd c
within_some k seen (Some w) p o e c = within k seen w p o e c

pub cut_within : (k : Kept) (seen : List Seen) (p : Pick) → IsObservation seen → IsSomeAnd (pick_of k seen) (λ w. IsCutOf w p) → IsWithinWeight k.mechanism k (class_in seen p.qid) p
cut_within k seen p o c = within_some k seen (pick_of k seen) p o refl c
