-- After two histories that leave an arbiter the same, the same picks are taken.
use Rattle.std.proofs.Common.{◌≡◌, ℕ, ◌≤◌, ◌==◌, ◌&&◌, ◌||◌, not, Bool, true, false, List, [], ◌∷◌, ◌++◌, refl, sym, ap, subst, ◌∙◌}
use Rattle.std.specs.Prelude.{Option, Some, None, if◌then◌else◌, option_map, All, IfSome, IsFalse}
use Rattle.std.specs.List.{list_any}
use Rattle.nvme_arbiter.specs.Settings.{ArbitrationFields, burst_of, weight_of, IsLevel}
use Rattle.nvme_arbiter.specs.Observation.{class_in}
use Rattle.nvme_arbiter.specs.History.{Picked, Changed, History, settings_after, last_served, last_served_of, used_in_round}
use Rattle.nvme_arbiter.specs.Rules.{round_robin_pick, weighted_pick}
use Rattle.nvme_arbiter.specs.Lawful.{lawful_pick, cut}
use Rattle.nvme_arbiter.specs.Specified.{starts_round, round_used, ready_in, is_pick_in, has_waited, Keeps, IsSpecifiedRun}
use Rattle.nvme_arbiter.specs.Standing.{used_of, used_with, used_before, StandsAt}
use Rattle.nvme_arbiter.specs.declared.settings.Class.{Class}
use Rattle.nvme_arbiter.specs.declared.settings.Class.TheVariants.{High, Medium, Low}
use Rattle.nvme_arbiter.specs.declared.settings.Mechanism.{Mechanism}
use Rattle.nvme_arbiter.specs.declared.settings.Mechanism.TheVariants.{RoundRobin, Weighted}
use Rattle.nvme_arbiter.specs.declared.kept.Kept.{Kept}
use Rattle.nvme_arbiter.specs.declared.kept.Used.{Used}
use Rattle.nvme_arbiter.specs.declared.pick.Seen.{Seen}
use Rattle.nvme_arbiter.specs.declared.pick.Pick.{Pick}
use Rattle.nvme_arbiter.specs.declared.specified.Rule.{Rule}
use Rattle.nvme_arbiter.specs.declared.specified.Rule.TheVariants as rules
use Rattle.nvme_judge.specs.Standing.{UsedIs, IsQuiet}
use Rattle.nvme_trace.specs.Taken.{is_unused, pick_within, latest_room, earlier_rooms, IsTakenPick, IsTakenAfter}
use Rattle.nvme_trace.proofs.FollowLemmas.{same_picks}
use Rattle.nvme_trace.proofs.TakenLemmas.{credit_same, if_some}

-- ---- what is looked back for
settings_alike : (s : ArbitrationFields) (p q past : History) → settings_after s p ≡ settings_after s q → settings_after s (past ++ p) ≡ settings_after s (past ++ q)
settings_alike s p q [] e = e
settings_alike s p q (Changed settings ∷ past) e = refl
settings_alike s p q (Picked seen pick ∷ past) e = settings_alike s p q past e

last_alike : (p q past : History) → last_served p ≡ last_served q → last_served (past ++ p) ≡ last_served (past ++ q)
last_alike p q [] e = e
last_alike p q (Changed settings ∷ past) e = last_alike p q past e
last_alike p q (Picked seen pick ∷ past) e = refl

class_alike : (class : Class) (p q past : History) → last_served_of class p ≡ last_served_of class q → last_served_of class (past ++ p) ≡ last_served_of class (past ++ q)
class_alike class p q [] e = e
class_alike class p q (Changed settings ∷ past) e = class_alike class p q past e
class_alike class p q (Picked seen pick ∷ past) e = rw (class_alike class p q past e) refl

used_alike : (level : Class) (p q past : History) → used_in_round level p ≡ used_in_round level q → used_in_round level (past ++ p) ≡ used_in_round level (past ++ q)
used_alike level p q [] e = e
used_alike level p q (Changed settings ∷ past) e = refl
used_alike level p q (Picked seen pick ∷ past) e = rw (used_alike level p q past e) refl

round_alike : (s : ArbitrationFields) (p q past : History) → settings_after s p ≡ settings_after s q → round_used s p ≡ round_used s q → round_used s (past ++ p) ≡ round_used s (past ++ q)
round_alike s p q [] e u = u
round_alike s p q (Changed settings ∷ past) e u = refl
round_alike s p q (Picked seen pick ∷ past) e u =
    let before = round_used s (past ++ p) in
    ap (λ (t : ArbitrationFields). used_with (used_before (starts_round t before seen pick) before) (class_in seen pick.qid) pick.n) (settings_alike s p q past e)
    ∙ ap (λ (v : Used). used_with (used_before (starts_round (settings_after s (past ++ q)) v seen pick) v) (class_in seen pick.qid) pick.n) (round_alike s p q past e u)

-- ---- by the profile
module _ (s : ArbitrationFields) (p q : History) (k : Kept) where
  same_settings : (m : Mechanism) → StandsAt m s p k → StandsAt m s q k → (past : History) → settings_after s (past ++ p) ≡ settings_after s (past ++ q)
  same_settings m a b past = settings_alike s p q past (sym a.settings_are ∙ b.settings_are)

  same_used : StandsAt Weighted s p k → StandsAt Weighted s q k → (past : History) (level : Class) → IsLevel level → used_in_round level (past ++ p) ≡ used_in_round level (past ++ q)
  same_used a b past level l = used_alike level p q past (sym (a.recalls.1 level l) ∙ b.recalls.1 level l)

  lawful_alike : (m : Mechanism) → StandsAt m s p k → StandsAt m s q k → (past : History) (seen : List Seen) → lawful_pick m s (past ++ p) seen ≡ lawful_pick m s (past ++ q) seen
  lawful_alike RoundRobin a b past seen =
      ap (λ (t : ArbitrationFields). round_robin_pick t (last_served (past ++ p)) seen) (same_settings RoundRobin a b past)
      ∙ ap (λ (l : Option ℕ). round_robin_pick (settings_after s (past ++ q)) l seen) (last_alike p q past (sym a.recalls ∙ b.recalls))
  lawful_alike Weighted a b past seen =
      ap (λ (t : ArbitrationFields). weighted_pick t (λ c. last_served_of c (past ++ p)) (λ l. used_in_round l (past ++ p)) seen) (same_settings Weighted a b past)
      ∙ same_picks (settings_after s (past ++ q)) (λ c. last_served_of c (past ++ p)) (λ c. last_served_of c (past ++ q)) (λ l. used_in_round l (past ++ p)) (λ l. used_in_round l (past ++ q)) seen
      (λ c. class_alike c p q past (sym (a.recalls.0 c) ∙ b.recalls.0 c))
      (credit_same (settings_after s (past ++ q)) (λ l. used_in_round l (past ++ p)) (λ l. used_in_round l (past ++ q)) (same_used a b past))

  within_alike : (m : Mechanism) → StandsAt m s p k → StandsAt m s q k → (past : History) (room : Option ℕ) (seen : List Seen) → pick_within room m s (past ++ p) seen ≡ pick_within room m s (past ++ q) seen
  within_alike m a b past None seen = lawful_alike m a b past seen
  within_alike m a b past (Some n) seen = ap (option_map (cut n)) (lawful_alike m a b past seen)

  unused_alike : (m : Mechanism) → StandsAt m s p k → StandsAt m s q k → (past : History) → is_unused m (past ++ p) ≡ is_unused m (past ++ q)
  unused_alike RoundRobin a b past = refl
  unused_alike Weighted a b past = rw (same_used a b past High tt, same_used a b past Medium tt, same_used a b past Low tt) refl

  pub taken_alike : (m : Mechanism) → StandsAt m s p k → StandsAt m s q k → (past : History) (room : Option ℕ) (seen : List Seen) (pick : Pick) → IsTakenPick m s (past ++ p) room seen pick → IsTakenPick m s (past ++ q) room seen pick
  taken_alike m a b past room seen pick taken =
      sym (within_alike m a b past room seen) ∙ (taken ∙ ap (λ (u : Bool). Some (record pick { fresh = pick.fresh && not u })) (unused_alike m a b past))

  pub taken_after_alike : (m : Mechanism) → StandsAt m s p k → StandsAt m s q k → (past : History) (rooms : List (Option ℕ)) → IsTakenAfter m s p past rooms → IsTakenAfter m s q past rooms
  taken_after_alike m a b [] rooms r = tt
  taken_after_alike m a b (Changed settings ∷ past) rooms r = taken_after_alike m a b past (earlier_rooms rooms) r
  taken_after_alike m a b (Picked seen pick ∷ past) rooms r = (r.0, taken_alike m a b past (latest_room rooms) seen pick r.1, taken_after_alike m a b past (earlier_rooms rooms) r.2)

-- ---- by the specification
free_step : (mine ready same other w v : Bool) → (w ≡ false → v ≡ false) → (if mine then ready && (not same && (other || w)) else w) ≡ false → (if mine then ready && (not same && (other || v)) else v) ≡ false
free_step false ready same other w v f h = f h
free_step true false same other w v f h = refl
free_step true true true other w v f h = refl
free_step true true false true w v f h = h
free_step true true false false w v f h = f h

-- what doesn't wait after one history doesn't after one that is quiet
free : (class : Option Class) (other qid : ℕ) (p q past : History) → IsQuiet q → IsFalse (has_waited class other qid (past ++ p)) → IsFalse (has_waited class other qid (past ++ q))
free class other qid p q [] quiet h = quiet class other qid
free class other qid p q (Changed settings ∷ past) quiet h = free class other qid p q past quiet h
free class other qid p q (Picked seen pick ∷ past) quiet h =
    free_step (is_pick_in class seen pick) (list_any (λ s. s.qid == qid) (ready_in class seen)) (pick.qid == qid) (pick.qid == other) (has_waited class other qid (past ++ p)) (has_waited class other qid (past ++ q)) (free class other qid p q past quiet) h

none_alike : (class : Option Class) (p q past : History) (seen : List Seen) (other : ℕ) → IsQuiet q → All (λ s. IsFalse (has_waited class other s.qid (past ++ p))) (ready_in class seen) → All (λ s. IsFalse (has_waited class other s.qid (past ++ q))) (ready_in class seen)
none_alike class p q past seen other quiet h = λ i d e. free class other _ p q past quiet (h i d e)

pub keeps_alike : (m : Mechanism) (s : ArbitrationFields) (p q past : History) (seen : List Seen) (pick : Pick) (used : Used) → settings_after s p ≡ settings_after s q → UsedIs m s p used → UsedIs m s q used → IsQuiet q
    → (rule : Rule) → Keeps rule m s (past ++ p) seen pick → Keeps rule m s (past ++ q) seen pick
keeps_alike m s p q past seen pick used e u v quiet rules.Candidates h = record { at_least_one = h.at_least_one; that_wait = h.that_wait }
keeps_alike m s p q past seen pick used e u v quiet rules.Burst h = subst (λ (t : ArbitrationFields). IfSome (burst_of t) (λ burst. pick.n ≤ burst)) (settings_alike s p q past e) h
keeps_alike RoundRobin s p q past seen pick used e u v quiet rules.Priority h = tt
keeps_alike Weighted s p q past seen pick used e u v quiet rules.Priority h = h
keeps_alike RoundRobin s p q past seen pick used e u v quiet rules.Credit h = tt
keeps_alike Weighted s p q past seen pick used e u v quiet rules.Credit h = λ level l.
    subst (λ (t : ArbitrationFields). used_of (round_used s (Picked seen pick ∷ past ++ q)) level ≤ weight_of t level) (settings_alike s p q past e)
    (subst (λ (w : Used). used_of w level ≤ weight_of (settings_after s (past ++ p)) level) (round_alike s p q (Picked seen pick ∷ past) e (sym u ∙ v)) (h level l))
keeps_alike RoundRobin s p q past seen pick used e u v quiet rules.Turn h = none_alike None p q past seen pick.qid quiet h
keeps_alike Weighted s p q past seen pick used e u v quiet rules.Turn h =
    if_some (λ class. All (λ x. IsFalse (has_waited (Some class) pick.qid x.qid (past ++ p))) (ready_in (Some class) seen)) (λ class. All (λ x. IsFalse (has_waited (Some class) pick.qid x.qid (past ++ q))) (ready_in (Some class) seen))
    (class_in seen pick.qid) (λ class n. none_alike (Some class) p q past seen pick.qid quiet n) h

pub specified_alike : (m : Mechanism) (s : ArbitrationFields) (p q past : History) (used : Used) → settings_after s p ≡ settings_after s q → UsedIs m s p used → UsedIs m s q used → IsQuiet q → IsSpecifiedRun m s q
    → IsSpecifiedRun m s (past ++ p) → IsSpecifiedRun m s (past ++ q)
specified_alike m s p q [] used e u v quiet l r = l
specified_alike m s p q (Changed settings ∷ past) used e u v quiet l r = specified_alike m s p q past used e u v quiet l r
specified_alike m s p q (Picked seen pick ∷ past) used e u v quiet l r =
    (r.0, (λ rule. keeps_alike m s p q past seen pick used e u v quiet rule (r.1 rule)), specified_alike m s p q past used e u v quiet l r.2)
