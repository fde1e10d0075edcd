-- A pick as this front writes it.
use Rattle.std.proofs.Common.{◌≡◌, ℕ, ◌+◌, ◌<◌, ◌≤◌, ◌==◌, ◌&&◌, ◌||◌, not, Bool, true, false, List, [], ◌∷◌, ◌++◌, append-nil, inl, inr, refl, sym, ap, subst, ◌∙◌, arith}
use Rattle.std.specs.Prelude.{Option, Some, None, if◌then◌else◌, option_map, All, IfSome, IsFalse}
use Rattle.std.specs.List.{list_any}
use Rattle.std.proofs.lemmas.Bool.{cases_Bool, eqb-true, eqb-false, eq-eqb, and_parts, true≢false}
use Rattle.nvme_arbiter.specs.Settings.{ArbitrationFields, burst_of, weight_of, IsLevel}
use Rattle.nvme_arbiter.specs.Observation.{IsObservation, class_in}
use Rattle.nvme_arbiter.specs.History.{Picked, Changed, History, settings_after, last_served, last_served_of, is_in_class, used_in_round, taken}
use Rattle.nvme_arbiter.specs.Rules.{credit, round_robin_pick, weighted_pick}
use Rattle.nvme_arbiter.specs.Lawful.{lawful_pick, cut, IsCutOf, IsLimitedPick, IsLawfulRun}
use Rattle.nvme_arbiter.specs.Laws.{IsRoundOver}
use Rattle.nvme_arbiter.specs.Specified.{starts_round, round_used, ready_in, has_waited, Keeps, IsSpecifiedRun}
use Rattle.nvme_arbiter.specs.Standing.{used_of, used_with, used_before, StandsAt}
use Rattle.nvme_arbiter.specs.declared.settings.Class.{Class}
use Rattle.nvme_arbiter.specs.declared.settings.Class.TheVariants.{Admin, Urgent, High, Medium, Low}
use Rattle.nvme_arbiter.specs.declared.settings.Mechanism.{Mechanism}
use Rattle.nvme_arbiter.specs.declared.settings.Mechanism.TheVariants.{RoundRobin, Weighted}
use Rattle.nvme_arbiter.specs.declared.kept.Kept.{Kept}
use Rattle.nvme_arbiter.specs.declared.kept.Used.{Used}
use Rattle.nvme_arbiter.specs.declared.pick.Seen.{Seen}
use Rattle.nvme_arbiter.specs.declared.pick.Pick.{Pick}
use Rattle.nvme_arbiter.specs.declared.specified.Rule.{Rule}
use Rattle.nvme_arbiter.specs.declared.specified.Rule.TheVariants as rules
use Rattle.nvme_arbiter.proofs.PickLaws.{fresh_due, whole_is_limited, limits_are_picks}
use Rattle.nvme_arbiter.proofs.SpecifiedLaws.{limited_specified}
use Rattle.nvme_trace.proofs.FollowLemmas.{same_picks}
use Rattle.nvme_trace.specs.Surveys.{Follows, capped_used}
use Rattle.nvme_trace.specs.Taken.{is_unused, as_written, written, pick_within, latest_room, earlier_rooms, IsTakenPick, IsTakenRun, IsTakenAfter, TellNoRoom, TellSomeRoom, TakenRunsAreLawful, TakenRunsAreLimited, TakenAfterIsLawful, TakenAfterIsLimited, LawfulRunsAreTaken}
use Rattle.nvme_trace.specs.Within.{RunsWithinAreTaken}
use Rattle.nvme_trace.specs.inside.Steps.{unused_by, within_room}

-- ---- whether nothing is used
unused_same : (a b c x y z : ℕ) → (a == 0) ≡ (x == 0) → (b == 0) ≡ (y == 0) → (c == 0) ≡ (z == 0) → ((a == 0) && ((b == 0) && (c == 0))) ≡ ((x == 0) && ((y == 0) && (z == 0)))
unused_same a b c x y z e f g = rw (e, f, g) refl

is_zero : (a x : ℕ) → a ≡ x → (a == 0) ≡ (x == 0)
is_zero a x e = ap (λ n. n == 0) e

capped_zero : (n : ℕ) → (capped_used n == 0) ≡ (n == 0)
capped_zero n =
    elim (cases_Bool (n == 0)) [
      | inl t ↦ (let none : n ≡ 0 = eqb-true n 0 t in let capped : capped_used n ≡ 0 = omega (arith, none) in eq-eqb (capped_used n) 0 capped ∙ sym t)
      | inr f ↦ elim (cases_Bool (capped_used n == 0)) [
        | inl t ↦ (let none : capped_used n ≡ 0 = eqb-true (capped_used n) 0 t in let zero : n ≡ 0 = omega (arith, none) in absurd (eqb-false n 0 f zero))
        | inr g ↦ g ∙ sym f
      ]
    ]

kept_stands : (m : Mechanism) (first : ArbitrationFields) (past : History) (k : Kept) → StandsAt m first past k → unused_by m k.used ≡ is_unused m past
kept_stands RoundRobin first past k h = refl
kept_stands Weighted first past k h = unused_same _ _ _ _ _ _ (is_zero k.used.high _ (h.recalls.1 High tt)) (is_zero k.used.medium _ (h.recalls.1 Medium tt)) (is_zero k.used.low _ (h.recalls.1 Low tt))

kept_follows : (m : Mechanism) (first : ArbitrationFields) (past : History) (k : Kept) → Follows m first past k → unused_by m k.used ≡ is_unused m past
kept_follows RoundRobin first past k h = refl
kept_follows Weighted first past k h = unused_same _ _ _ _ _ _
    (is_zero k.used.high _ (h.remembers.1 High tt) ∙ capped_zero (used_in_round High past))
    (is_zero k.used.medium _ (h.remembers.1 Medium tt) ∙ capped_zero (used_in_round Medium past))
    (is_zero k.used.low _ (h.remembers.1 Low tt) ∙ capped_zero (used_in_round Low past))

same_flag : (pick : Pick) (a b : Bool) → a ≡ b → record pick { fresh = pick.fresh && not a } ≡ record pick { fresh = pick.fresh && not b }
same_flag pick a b e = ap (λ (x : Bool). record pick { fresh = pick.fresh && not x }) e

pub written_stands : (m : Mechanism) (first : ArbitrationFields) (past : History) (k : Kept) (pick : Pick) → StandsAt m first past k → record pick { fresh = pick.fresh && not (unused_by k.mechanism k.used) } ≡ as_written m past pick
written_stands m first past k pick h = same_flag pick _ _ (ap (λ (x : Mechanism). unused_by x k.used) h.mechanism_is ∙ kept_stands m first past k h)

pub written_follows : (m : Mechanism) (first : ArbitrationFields) (past : History) (k : Kept) (pick : Pick) → Follows m first past k → record pick { fresh = pick.fresh && not (unused_by k.mechanism k.used) } ≡ as_written m past pick
written_follows m first past k pick h = same_flag pick _ _ (ap (λ (x : Mechanism). unused_by x k.used) h.mechanism_is ∙ kept_follows m first past k h)

-- ---- a pick leaves the same, however it is written
unused_level : (past : History) (level : Class) → IsLevel level → is_unused Weighted past ≡ true → used_in_round level past ≡ 0
unused_level past Admin l u = absurd l
unused_level past Urgent l u = absurd l
unused_level past High l u = eqb-true _ 0 (and_parts (used_in_round High past == 0) ((used_in_round Medium past == 0) && (used_in_round Low past == 0)) u).0
unused_level past Medium l u =
    let rest = (and_parts (used_in_round High past == 0) ((used_in_round Medium past == 0) && (used_in_round Low past == 0)) u).1 in
    eqb-true _ 0 (and_parts (used_in_round Medium past == 0) (used_in_round Low past == 0) rest).0
unused_level past Low l u =
    let rest = (and_parts (used_in_round High past == 0) ((used_in_round Medium past == 0) && (used_in_round Low past == 0)) u).1 in
    eqb-true _ 0 (and_parts (used_in_round Medium past == 0) (used_in_round Low past == 0) rest).1

used_step : (fresh unused : Bool) (t n : ℕ) → (unused ≡ true → n ≡ 0) → t + (if fresh && not unused then 0 else n) ≡ t + (if fresh then 0 else n)
used_step true true t n h = ap (λ (x : ℕ). t + x) (h refl)
used_step true false t n h = refl
used_step false unused t n h = refl

used_written : (past : History) (seen : List Seen) (pick : Pick) (level : Class) → IsLevel level → used_in_round level (Picked seen (as_written Weighted past pick) ∷ past) ≡ used_in_round level (Picked seen pick ∷ past)
used_written past seen pick level l = used_step pick.fresh (is_unused Weighted past) (taken level seen pick) (used_in_round level past) (unused_level past level l)

pub stands_told : (m : Mechanism) (first : ArbitrationFields) (past : History) (seen : List Seen) (pick : Pick) (k : Kept) → StandsAt m first (Picked seen (as_written m past pick) ∷ past) k → StandsAt m first (Picked seen pick ∷ past) k
stands_told RoundRobin first past seen pick k h = record { mechanism_is = h.mechanism_is; settings_are = h.settings_are; recalls = h.recalls }
stands_told Weighted first past seen pick k h = record {
  mechanism_is = h.mechanism_is;
  settings_are = h.settings_are;
  recalls = (h.recalls.0, λ level l. h.recalls.1 level l ∙ used_written past seen pick level l);
}

-- ---- runs
-- a pick that is lawful with a limit isn't fresh while nothing is used
some_weight : (s : ArbitrationFields) (level : Class) → IsLevel level → 0 < weight_of s level
some_weight s Admin l = absurd l
some_weight s Urgent l = absurd l
some_weight s High l = omega arith
some_weight s Medium l = omega arith
some_weight s Low l = omega arith

not_over : (s : ArbitrationFields) (past : History) (seen : List Seen) → is_unused Weighted past ≡ true → IsRoundOver s (λ l. used_in_round l past) seen → ⊥
not_over s past seen u over =
    let level = over.ready_level.0 in
    let l = over.ready_level.1 in
    let spent : weight_of s level ≤ used_in_round level past = over.spent level l over.ready_level.2 in
    let none : used_in_round level past ≡ 0 = unused_level past level l u in
    let some = some_weight s level l in
    absurd (omega (arith, spent, none, some))

flag_kept : (fresh unused : Bool) → (fresh ≡ true → unused ≡ true → ⊥) → fresh ≡ (fresh && not unused)
flag_kept true true h = absurd (h refl refl)
flag_kept true false h = refl
flag_kept false unused h = refl

same_written : (m : Mechanism) (first : ArbitrationFields) (past : History) (seen : List Seen) (pick : Pick) → IsLimitedPick m first past seen pick → pick ≡ as_written m past pick
same_written RoundRobin first past seen pick l = ap (λ (b : Bool). record pick { fresh = b }) (flag_kept pick.fresh false (λ f u. true≢false (sym u)))
same_written Weighted first past seen pick l = ap (λ (b : Bool). record pick { fresh = b }) (flag_kept pick.fresh (is_unused Weighted past) (λ f u.
    not_over (settings_after first past) past seen u ((fresh_due first past seen pick l).0 f)))

-- where no room is told
no_latest : (rooms : List (Option ℕ)) → TellNoRoom rooms → latest_room rooms ≡ None
no_latest [] n = refl
no_latest (room ∷ rooms) n = n.0

none_earlier : (rooms : List (Option ℕ)) → TellNoRoom rooms → TellNoRoom (earlier_rooms rooms)
none_earlier [] n = tt
none_earlier (room ∷ rooms) n = n.1

no_limit : (m : Mechanism) (first : ArbitrationFields) (past : History) (seen : List Seen) (rooms : List (Option ℕ)) → TellNoRoom rooms → pick_within (latest_room rooms) m first past seen ≡ lawful_pick m first past seen
no_limit m first past seen rooms n = ap (λ (room : Option ℕ). pick_within room m first past seen) (no_latest rooms n)

pub lawful_taken : LawfulRunsAreTaken
lawful_taken m first [] rooms n r = tt
lawful_taken m first (Changed settings ∷ past) rooms n r = lawful_taken m first past (earlier_rooms rooms) (none_earlier rooms n) r
lawful_taken m first (Picked seen pick ∷ past) rooms n r =
    (r.0, no_limit m first past seen rooms n ∙ (r.1 ∙ ap Some (same_written m first past seen pick (whole_is_limited m first past seen pick r.0 r.1))), lawful_taken m first past (earlier_rooms rooms) (none_earlier rooms n) r.2)

-- where some room is told
some_latest : (rooms : List (Option ℕ)) → TellSomeRoom rooms → IfSome (latest_room rooms) (λ n. 1 ≤ n)
some_latest [] s = tt
some_latest (room ∷ rooms) s = s.0

some_earlier : (rooms : List (Option ℕ)) → TellSomeRoom rooms → TellSomeRoom (earlier_rooms rooms)
some_earlier [] s = tt
some_earlier (room ∷ rooms) s = s.1

limited_within : (m : Mechanism) (first : ArbitrationFields) (past : History) (room : Option ℕ) (seen : List Seen) (pick : Pick) → IsObservation seen → IfSome room (λ n. 1 ≤ n) → pick_within room m first past seen ≡ Some pick
    → IsLimitedPick m first past seen pick
limited_within m first past None seen pick o s l = whole_is_limited m first past seen pick o l
limited_within m first past (Some n) seen pick o s l = (limits_are_picks n m first past seen pick o s l).0

pub within_taken : RunsWithinAreTaken
within_taken m first [] rooms s r = tt
within_taken m first (Changed settings ∷ past) rooms s r = within_taken m first past (earlier_rooms rooms) (some_earlier rooms s) r
within_taken m first (Picked seen pick ∷ past) rooms s r =
    let limited = limited_within m first past (latest_room rooms) seen pick r.0 (some_latest rooms s) r.1 in
    (r.0, r.1 ∙ ap Some (same_written m first past seen pick limited), within_taken m first past (earlier_rooms rooms) (some_earlier rooms s) r.2)

-- what is looked back for is the same in a history as this front writes it
same_settings : (m : Mechanism) (first : ArbitrationFields) (past : History) → settings_after first (written m past) ≡ settings_after first past
same_settings m first [] = refl
same_settings m first (Changed settings ∷ past) = refl
same_settings m first (Picked seen pick ∷ past) = same_settings m first past

same_last : (m : Mechanism) (past : History) → last_served (written m past) ≡ last_served past
same_last m [] = refl
same_last m (Changed settings ∷ past) = same_last m past
same_last m (Picked seen pick ∷ past) = refl

same_last_of : (m : Mechanism) (class : Class) (past : History) → last_served_of class (written m past) ≡ last_served_of class past
same_last_of m class [] = refl
same_last_of m class (Changed settings ∷ past) = same_last_of m class past
same_last_of m class (Picked seen pick ∷ past) = rw (same_last_of m class past) refl

same_used : (level : Class) (past : History) → IsLevel level → used_in_round level (written Weighted past) ≡ used_in_round level past
same_used level [] l = refl
same_used level (Changed settings ∷ past) l = refl
same_used level (Picked seen pick ∷ past) l =
    ap (λ (n : ℕ). taken level seen pick + (if pick.fresh && not (is_unused Weighted past) then 0 else n)) (same_used level past l) ∙ used_written past seen pick level l

pub credit_same : (s : ArbitrationFields) (a b : Class → ℕ) → ((level : Class) → IsLevel level → a level ≡ b level) → (fresh : Bool) (level : Class) → credit s a fresh level ≡ credit s b fresh level
credit_same s a b h true level = refl
credit_same s a b h false Admin = omega arith
credit_same s a b h false Urgent = omega arith
credit_same s a b h false High = omega (arith, h High tt)
credit_same s a b h false Medium = omega (arith, h Medium tt)
credit_same s a b h false Low = omega (arith, h Low tt)

lawful_same : (m : Mechanism) (first : ArbitrationFields) (past : History) (seen : List Seen) → lawful_pick m first (written m past) seen ≡ lawful_pick m first past seen
lawful_same RoundRobin first past seen =
    ap (λ (s : ArbitrationFields). round_robin_pick s (last_served (written RoundRobin past)) seen) (same_settings RoundRobin first past)
    ∙ ap (λ (l : Option ℕ). round_robin_pick (settings_after first past) l seen) (same_last RoundRobin past)
lawful_same Weighted first past seen =
    ap (λ (s : ArbitrationFields). weighted_pick s (λ c. last_served_of c (written Weighted past)) (λ l. used_in_round l (written Weighted past)) seen) (same_settings Weighted first past)
    ∙ same_picks (settings_after first past) (λ c. last_served_of c (written Weighted past)) (λ c. last_served_of c past) (λ l. used_in_round l (written Weighted past)) (λ l. used_in_round l past) seen
    (λ c. same_last_of Weighted c past)
    (credit_same (settings_after first past) (λ l. used_in_round l (written Weighted past)) (λ l. used_in_round l past) (λ level l. same_used level past l))

pub taken_lawful : TakenRunsAreLawful
taken_lawful m first [] rooms n r = tt
taken_lawful m first (Changed settings ∷ past) rooms n r = taken_lawful m first past (earlier_rooms rooms) (none_earlier rooms n) r
taken_lawful m first (Picked seen pick ∷ past) rooms n r =
    (r.0, lawful_same m first past seen ∙ (sym (no_limit m first past seen rooms n) ∙ r.1), taken_lawful m first past (earlier_rooms rooms) (none_earlier rooms n) r.2)

within_same : (m : Mechanism) (first : ArbitrationFields) (past : History) (room : Option ℕ) (seen : List Seen) → pick_within room m first (written m past) seen ≡ pick_within room m first past seen
within_same m first past None seen = lawful_same m first past seen
within_same m first past (Some n) seen = ap (option_map (cut n)) (lawful_same m first past seen)

pub taken_limited : TakenRunsAreLimited
taken_limited m first [] rooms s r = tt
taken_limited m first (Changed settings ∷ past) rooms s r = taken_limited m first past (earlier_rooms rooms) (some_earlier rooms s) r
taken_limited m first (Picked seen pick ∷ past) rooms s r =
    let here = within_same m first past (latest_room rooms) seen ∙ r.1 in
    (r.0, limited_within m first (written m past) (latest_room rooms) seen (as_written m past pick) r.0 (some_latest rooms s) here, taken_limited m first past (earlier_rooms rooms) (some_earlier rooms s) r.2)

-- ---- a room
pub within_lawful : (room : Option ℕ) (m : Mechanism) (first : ArbitrationFields) (past : History) (seen : List Seen) (o : Option Pick) → o ≡ lawful_pick m first past seen → option_map (within_room room) o ≡ pick_within room m first past seen
within_lawful None m first past seen None e = e
within_lawful None m first past seen (Some pick) e = e
within_lawful (Some n) m first past seen o e = ap (option_map (cut n)) e

pub within_cut : (room : Option ℕ) (pick : Pick) → IsCutOf pick (within_room room pick)
within_cut None pick = record { qid = refl; fresh = refl; few = omega arith }
within_cut (Some n) pick = record { qid = refl; fresh = refl; few = omega arith }

-- ---- by the specification
same_round : (m : Mechanism) (first : ArbitrationFields) (past : History) → round_used first (written m past) ≡ round_used first past
same_round m first [] = refl
same_round m first (Changed settings ∷ past) = refl
same_round m first (Picked seen pick ∷ past) =
    let before = round_used first (written m past) in
    ap (λ (s : ArbitrationFields). used_with (used_before (starts_round s before seen pick) before) (class_in seen pick.qid) pick.n) (same_settings m first past)
    ∙ ap (λ (u : Used). used_with (used_before (starts_round (settings_after first past) u seen pick) u) (class_in seen pick.qid) pick.n) (same_round m first past)

same_waited : (m : Mechanism) (class : Option Class) (other qid : ℕ) (past : History) → has_waited class other qid (written m past) ≡ has_waited class other qid past
same_waited m class other qid [] = refl
same_waited m class other qid (Changed settings ∷ past) = same_waited m class other qid past
same_waited m None other qid (Picked seen pick ∷ past) =
    ap (λ (w : Bool). list_any (λ s. s.qid == qid) (ready_in None seen) && (not (pick.qid == qid) && ((pick.qid == other) || w))) (same_waited m None other qid past)
same_waited m (Some class) other qid (Picked seen pick ∷ past) =
    ap (λ (w : Bool). if is_in_class class (class_in seen pick.qid) then list_any (λ s. s.qid == qid) (ready_in (Some class) seen) && (not (pick.qid == qid) && ((pick.qid == other) || w)) else w)
    (same_waited m (Some class) other qid past)

none_same : (m : Mechanism) (class : Option Class) (past : History) (seen : List Seen) (qid : ℕ) → All (λ s. IsFalse (has_waited class qid s.qid (written m past))) (ready_in class seen) → All (λ s. IsFalse (has_waited class qid s.qid past)) (ready_in class seen)
none_same m class past seen qid h =
    let path : (λ (s : Seen). has_waited class qid s.qid (written m past)) ≡ (λ (s : Seen). has_waited class qid s.qid past) = λ i. λ s. same_waited m class qid s.qid past i in
    subst (λ (w : Seen → Bool). All (λ s. IsFalse (w s)) (ready_in class seen)) path h

pub if_some : {T : Type 0} (P Q : T → Type 0) (o : Option T) → ((x : T) → P x → Q x) → IfSome o P → IfSome o Q
if_some P Q None h p = tt
if_some P Q (Some x) h p = h x p

keeps_told : (m : Mechanism) (first : ArbitrationFields) (past : History) (seen : List Seen) (pick : Pick) (rule : Rule) → Keeps rule m first (written m past) seen (as_written m past pick) → Keeps rule m first past seen pick
keeps_told m first past seen pick rules.Candidates h = record { at_least_one = h.at_least_one; that_wait = h.that_wait }
keeps_told m first past seen pick rules.Burst h = subst (λ (s : ArbitrationFields). IfSome (burst_of s) (λ burst. pick.n ≤ burst)) (same_settings m first past) h
keeps_told RoundRobin first past seen pick rules.Priority h = tt
keeps_told Weighted first past seen pick rules.Priority h = h
keeps_told RoundRobin first past seen pick rules.Credit h = tt
keeps_told Weighted first past seen pick rules.Credit h = λ level l.
    subst (λ (s : ArbitrationFields). used_of (round_used first (Picked seen pick ∷ past)) level ≤ weight_of s level) (same_settings Weighted first past)
    (subst (λ (u : Used). used_of u level ≤ weight_of (settings_after first (written Weighted past)) level) (same_round Weighted first (Picked seen pick ∷ past)) (h level l))
keeps_told RoundRobin first past seen pick rules.Turn h = none_same RoundRobin None past seen pick.qid h
keeps_told Weighted first past seen pick rules.Turn h =
    if_some (λ class. All (λ s. IsFalse (has_waited (Some class) pick.qid s.qid (written Weighted past))) (ready_in (Some class) seen)) (λ class. All (λ s. IsFalse (has_waited (Some class) pick.qid s.qid past)) (ready_in (Some class) seen))
    (class_in seen pick.qid) (λ class n. none_same Weighted (Some class) past seen pick.qid n) h

specified_told : (m : Mechanism) (first : ArbitrationFields) (past : History) → IsSpecifiedRun m first (written m past) → IsSpecifiedRun m first past
specified_told m first [] r = tt
specified_told m first (Changed settings ∷ past) r = specified_told m first past r
specified_told m first (Picked seen pick ∷ past) r = (r.0, λ rule. keeps_told m first past seen pick rule (r.1 rule), specified_told m first past r.2)

-- what is taken is allowed by the specification
pub taken_specified : (m : Mechanism) (first : ArbitrationFields) (past : History) (rooms : List (Option ℕ)) → TellSomeRoom rooms → IsTakenRun m first past rooms → IsSpecifiedRun m first past
taken_specified m first past rooms s r = specified_told m first past (limited_specified m first (written m past) (taken_limited m first past rooms s r))

-- ---- events after a history
-- the rooms of so many events
abbrev rooms_after : History → List (Option ℕ) → List (Option ℕ)
rooms_after [] rooms = []
rooms_after (e ∷ past) rooms = latest_room rooms ∷ rooms_after past (earlier_rooms rooms)

none_after : (past : History) (rooms : List (Option ℕ)) → TellNoRoom rooms → TellNoRoom (rooms_after past rooms)
none_after [] rooms n = tt
none_after (e ∷ past) rooms n = (no_latest rooms n, none_after past (earlier_rooms rooms) (none_earlier rooms n))

some_after : (past : History) (rooms : List (Option ℕ)) → TellSomeRoom rooms → TellSomeRoom (rooms_after past rooms)
some_after [] rooms s = tt
some_after (e ∷ past) rooms s = (some_latest rooms s, some_after past (earlier_rooms rooms) (some_earlier rooms s))

taken_whole : (m : Mechanism) (first : ArbitrationFields) (prior past : History) (rooms : List (Option ℕ)) → IsLawfulRun m first prior → IsTakenAfter m first prior past rooms → IsTakenRun m first (past ++ prior) (rooms_after past rooms)
taken_whole m first prior [] rooms l r = lawful_taken m first prior [] tt l
taken_whole m first prior (Changed settings ∷ past) rooms l r = taken_whole m first prior past (earlier_rooms rooms) l r
taken_whole m first prior (Picked seen pick ∷ past) rooms l r = (r.0, r.1, taken_whole m first prior past (earlier_rooms rooms) l r.2)

pub taken_after_lawful : TakenAfterIsLawful
taken_after_lawful m first prior past rooms n l r = taken_lawful m first (past ++ prior) (rooms_after past rooms) (none_after past rooms n) (taken_whole m first prior past rooms l r)

pub taken_after_limited : TakenAfterIsLimited
taken_after_limited m first prior past rooms s l r = taken_limited m first (past ++ prior) (rooms_after past rooms) (some_after past rooms s) (taken_whole m first prior past rooms l r)

pub taken_after_specified : (m : Mechanism) (first : ArbitrationFields) (prior past : History) (rooms : List (Option ℕ)) → TellSomeRoom rooms → IsLawfulRun m first prior → IsTakenAfter m first prior past rooms → IsSpecifiedRun m first (past ++ prior)
taken_after_specified m first prior past rooms s l r = taken_specified m first (past ++ prior) (rooms_after past rooms) (some_after past rooms s) (taken_whole m first prior past rooms l r)

-- after nothing
pub taken_after_none : (m : Mechanism) (first : ArbitrationFields) (past : History) (rooms : List (Option ℕ)) → IsTakenRun m first past rooms → IsTakenAfter m first [] past rooms
taken_after_none m first [] rooms r = tt
taken_after_none m first (Changed settings ∷ past) rooms r = taken_after_none m first past (earlier_rooms rooms) r
taken_after_none m first (Picked seen pick ∷ past) rooms r =
    (r.0, subst (λ (h : History). IsTakenPick m first h (latest_room rooms) seen pick) (sym (append-nil past)) r.1, taken_after_none m first past (earlier_rooms rooms) r.2)
