-- What is kept of any picks says what their history says.
use Rattle.std.proofs.Common.{◌≡◌, ℕ, ◌+◌, min, Bool, true, false, List, ◌∷◌, refl, sym, ap, subst, ◌∙◌, arith}
use Rattle.std.specs.Prelude.{Option, Some, None, nat_lt, if◌then◌else◌}
use Rattle.std.specs.Option.{option_or}
use Rattle.nvme_arbiter.specs.Settings.{ArbitrationFields, burst_of, IsLevel}
use Rattle.nvme_arbiter.specs.Observation.{is_class, ready_of, class_in}
use Rattle.nvme_arbiter.specs.Next.{next}
use Rattle.nvme_arbiter.specs.Rules.{within_burst, take_from, credit, round_robin_pick, weighted_pick}
use Rattle.nvme_arbiter.specs.History.{History, Picked, Changed, settings_after, last_served_of, is_in_class, used_in_round}
use Rattle.nvme_arbiter.specs.Lawful.{lawful_pick}
use Rattle.nvme_arbiter.specs.Standing.{last_of, used_of, pick_by, pick_of, last_with, used_before, nothing_used, StandsAt}
use Rattle.nvme_arbiter.specs.declared.settings.Class.{Class}
use Rattle.nvme_arbiter.specs.declared.settings.Class.TheVariants.{Admin, Urgent, High, Medium, Low}
use Rattle.nvme_arbiter.specs.declared.settings.Mechanism.{Mechanism}
use Rattle.nvme_arbiter.specs.declared.settings.Mechanism.TheVariants.{RoundRobin, Weighted}
use Rattle.nvme_arbiter.specs.declared.kept.Kept.{Kept}
use Rattle.nvme_arbiter.specs.declared.kept.Last.{Last}
use Rattle.nvme_arbiter.specs.declared.kept.Used.{Used}
use Rattle.nvme_arbiter.specs.declared.pick.Seen.{Seen}
use Rattle.nvme_arbiter.specs.declared.pick.Pick.{Pick}
use Rattle.nvme_arbiter.proofs.ClassLemmas.{of_class_after}
use Rattle.nvme_trace.specs.Surveys.{Follows, capped_used}
use Rattle.nvme_trace.specs.inside.Steps.{used_plus, followed, WeightsFit, UsedFits}

-- ---- only the credits of what is used count
module _ (s : ArbitrationFields) (last : Class → Option ℕ) (credits : Bool → Class → ℕ) (seen : List Seen) where
  level_by : Bool → Class → Option Pick
  level_by fresh level =
      if nat_lt 0 (credits fresh level) then take_from fresh (λ q. min (within_burst (burst_of s) q.count) (credits fresh level)) (next (last level) (ready_of level seen)) else None

  levels_by : Bool → Option Pick
  levels_by fresh = option_or (level_by fresh High) (option_or (level_by fresh Medium) (level_by fresh Low))

  pick_with : Option Pick
  pick_with =
      option_or (take_from false (λ q. 1) (next (last Admin) (ready_of Admin seen)))
      (option_or (take_from false (λ q. within_burst (burst_of s) q.count) (next (last Urgent) (ready_of Urgent seen)))
      (option_or (levels_by false) (levels_by true)))

by_credits : (s : ArbitrationFields) (last : Class → Option ℕ) (used : Class → ℕ) (seen : List Seen) → weighted_pick s last used seen ≡ pick_with s last (credit s used) seen
unfolding pick_with levels_by level_by
by_credits s last used seen = refl

pub same_picks : (s : ArbitrationFields) (last last' : Class → Option ℕ) (used used' : Class → ℕ) (seen : List Seen) → ((c : Class) → last c ≡ last' c)
    → ((fresh : Bool) (level : Class) → credit s used fresh level ≡ credit s used' fresh level) → weighted_pick s last used seen ≡ weighted_pick s last' used' seen
same_picks s last last' used used' seen e u =
    let lasts : last ≡ last' = λ i. λ c. e c i in
    let credits : credit s used ≡ credit s used' = λ i. λ fresh. λ level. u fresh level i in
    by_credits s last used seen ∙ (ap (λ l. pick_with s l (credit s used) seen) lasts ∙ (ap (λ c. pick_with s last' c seen) credits ∙ sym (by_credits s last' used' seen)))

credit_same : (s : ArbitrationFields) (used : Used) (counted : Class → ℕ) (fresh : Bool) (level : Class) → WeightsFit s
    → ((l : Class) → IsLevel l → used_of used l ≡ capped_used (counted l)) → credit s (used_of used) fresh level ≡ credit s counted fresh level
credit_same s used counted true level w u = refl
credit_same s used counted false Admin w u = omega arith
credit_same s used counted false Urgent w u = omega arith
credit_same s used counted false High w u = omega (arith, u High tt, w.high)
credit_same s used counted false Medium w u = omega (arith, u Medium tt, w.medium)
credit_same s used counted false Low w u = omega (arith, u Low tt, w.low)

pick_same : (m : Mechanism) (first : ArbitrationFields) (past : History) (k : Kept) (seen : List Seen) → WeightsFit k.settings → Follows m first past k → pick_by m k seen ≡ lawful_pick m first past seen
pick_same RoundRobin first past k seen w h =
    ap (λ s. round_robin_pick s k.last.all seen) h.settings_are ∙ ap (λ l. round_robin_pick (settings_after first past) l seen) h.remembers
pick_same Weighted first past k seen w h =
    same_picks k.settings (last_of k.last) (λ c. last_served_of c past) (used_of k.used) (λ l. used_in_round l past) seen h.remembers.0
    (λ fresh level. credit_same k.settings k.used (λ l. used_in_round l past) fresh level w h.remembers.1)
    ∙ ap (λ s. weighted_pick s (λ c. last_served_of c past) (λ l. used_in_round l past) seen) h.settings_are

-- what is picked of what is kept is the lawful pick
pub follows_pick : (m : Mechanism) (first : ArbitrationFields) (past : History) (k : Kept) (seen : List Seen) → WeightsFit k.settings → Follows m first past k → pick_of k seen ≡ lawful_pick m first past seen
follows_pick m first past k seen w h = ap (λ n. pick_by n k seen) h.mechanism_is ∙ pick_same m first past k seen w h

-- ---- after a pick
last_step : (last : Last) (other : Option Class) (class : Class) (qid : ℕ) (r : Option ℕ) → last_of last class ≡ r → last_of (last_with last other qid) class ≡ (if is_in_class class other then Some qid else r)
last_step last None class qid r h = h
last_step last (Some other) class qid r h = of_class_after last.by_class other class (λ v. Some qid) ∙ ap (λ v. if is_class class other then Some qid else v) h

used_step : (used : Used) (other : Option Class) (level : Class) (n : ℕ) (fresh : Bool) (u : ℕ) → IsLevel level → used_of used level ≡ capped_used u
    → used_of (used_plus (used_before fresh used) other n) level ≡ capped_used ((if is_in_class level other then n else 0) + (if fresh then 0 else u))
used_step used other Admin n fresh u l h = absurd l
used_step used other Urgent n fresh u l h = absurd l
used_step used (Some High) High n true u l h = omega arith
used_step used (Some High) High n false u l h = omega arith
used_step used _ High n true u l h = omega arith
used_step used _ High n false u l h = omega arith
used_step used (Some Medium) Medium n true u l h = omega arith
used_step used (Some Medium) Medium n false u l h = omega arith
used_step used _ Medium n true u l h = omega arith
used_step used _ Medium n false u l h = omega arith
used_step used (Some Low) Low n true u l h = omega arith
used_step used (Some Low) Low n false u l h = omega arith
used_step used _ Low n true u l h = omega arith
used_step used _ Low n false u l h = omega arith

follows_kept : (m : Mechanism) (first : ArbitrationFields) (past : History) (k : Kept) (seen : List Seen) (pick : Pick) → Follows m first past k → Follows m first (Picked seen pick ∷ past) (followed k (class_in seen pick.qid) pick)
follows_kept RoundRobin first past k seen pick h = record { mechanism_is = h.mechanism_is; settings_are = h.settings_are; remembers = refl }
follows_kept Weighted first past k seen pick h = record {
  mechanism_is = h.mechanism_is;
  settings_are = h.settings_are;
  remembers = (
    λ class. last_step k.last (class_in seen pick.qid) class pick.qid (last_served_of class past) (h.remembers.0 class),
    λ level l. used_step k.used (class_in seen pick.qid) level pick.n pick.fresh (used_in_round level past) l (h.remembers.1 level l),
  );
}

pub follows_picked : (m : Mechanism) (first : ArbitrationFields) (past : History) (k new : Kept) (seen : List Seen) (pick : Pick) → new ≡ followed k (class_in seen pick.qid) pick → Follows m first past k → Follows m first (Picked seen pick ∷ past) new
follows_picked m first past k new seen pick e h = subst (Follows m first (Picked seen pick ∷ past)) (sym e) (follows_kept m first past k seen pick h)

nothing_in : (level : Class) → used_of nothing_used level ≡ 0
nothing_in Admin = refl
nothing_in Urgent = refl
nothing_in High = refl
nothing_in Medium = refl
nothing_in Low = refl

-- after a change of the settings
pub follows_changed : (m : Mechanism) (first : ArbitrationFields) (past : History) (k : Kept) (s : ArbitrationFields) → Follows m first past k → Follows m first (Changed s ∷ past) (record k { settings = s; used = nothing_used })
follows_changed RoundRobin first past k s h = record { mechanism_is = h.mechanism_is; settings_are = refl; remembers = h.remembers }
follows_changed Weighted first past k s h = record { mechanism_is = h.mechanism_is; settings_are = refl; remembers = (h.remembers.0, λ level l. nothing_in level) }

-- where an arbiter stands, of which no more is used than is counted
counted_used : (used : Used) (past : History) (level : Class) → UsedFits used → IsLevel level → used_of used level ≡ used_in_round level past → used_of used level ≡ capped_used (used_in_round level past)
counted_used used past Admin fits l is = absurd l
counted_used used past Urgent fits l is = absurd l
counted_used used past High fits l is = omega (arith, fits.high, is)
counted_used used past Medium fits l is = omega (arith, fits.medium, is)
counted_used used past Low fits l is = omega (arith, fits.low, is)

pub follows_stands : (m : Mechanism) (s : ArbitrationFields) (past : History) (k : Kept) → UsedFits k.used → StandsAt m s past k → Follows m s past k
follows_stands RoundRobin s past k fits is = record { mechanism_is = is.mechanism_is; settings_are = is.settings_are; remembers = is.recalls }
follows_stands Weighted s past k fits is = record { mechanism_is = is.mechanism_is; settings_are = is.settings_are; remembers = (is.recalls.0, λ level l. counted_used k.used past level fits l (is.recalls.1 level l)) }
