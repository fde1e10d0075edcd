-- Laws of lawful picks and lawful runs.
use Rattle.std.proofs.Common.{◌≡◌, ◌≢◌, ℕ, ◌-◌, ◌<◌, ◌≤◌, ◌==◌, ◌^◌, inl, inr, min, true, false, cond, nat_lt, List, [], ◌∷◌, slice_index_or, find, refl, sym, ap, subst, ◌∙◌, arith}
use Rattle.std.specs.Prelude.{Option, Some, None, All, AllPairs, IfSome, option_map}
use Rattle.std.specs.Option.{option_or}
use Rattle.std.proofs.lemmas.Bool.{ltb-true, ltb-false, cases_Bool, cond-true, cond-false, true≢false}
use Rattle.std.proofs.lemmas.Nat.{pow_pos}
use Rattle.std.proofs.lemmas.List.Elements.{All-filter, filter_passes}
use Rattle.nvme_arbiter.specs.Settings.{ArbitrationFields, burst_of, weight_of, IsLevel}
use Rattle.nvme_arbiter.specs.declared.pick.Seen.{Seen}
use Rattle.nvme_arbiter.specs.declared.pick.Pick.{Pick}
use Rattle.nvme_arbiter.specs.declared.settings.Class.{Class}
use Rattle.nvme_arbiter.specs.declared.settings.Class.TheVariants.{Admin, Urgent, High, Medium, Low}
use Rattle.nvme_arbiter.specs.declared.settings.Mechanism.{Mechanism}
use Rattle.nvme_arbiter.specs.declared.settings.Mechanism.TheVariants.{RoundRobin, Weighted}
use Rattle.nvme_arbiter.specs.Observation.{is_class, IsSeen, IsObservation, ready, ready_of}
use Rattle.nvme_arbiter.specs.Limits.{highest_count}
use Rattle.nvme_arbiter.specs.Next.{next}
use Rattle.nvme_arbiter.specs.History.{Picked, Changed, History, settings_after, last_served, last_served_of, used_in_round}
use Rattle.nvme_arbiter.specs.Rules.{within_burst, take_from, credit, admin_pick, urgent_pick, level_pick, levels_pick, weighted_pick}
use Rattle.nvme_arbiter.specs.Laws.{OneLawfulPick, IsMeasured, LawfulPicksAreMeasured, IsRoundOver, FreshWhereDue, PrefixesAreLawful, LimitedPicksAreMeasured, LimitsArePicks, PicksAreOfLimits, WideLimitsCutNothing, LawfulRunsAreLimited, LimitedPrefixes}
use Rattle.nvme_arbiter.specs.Lawful.{lawful_pick, cut, IsLawfulPick, IsLimitedPick}
use Rattle.nvme_arbiter.proofs.NextLemmas.{Below, IfSome-find}
use Rattle.nvme_arbiter.proofs.Choices.{or_some, or_none, take_from_some, take_from_none, next_none, next_nil, next_is_one, found_itself, same_class, next_of_class, levels_some, Choice, of_admin, of_urgent, of_level, weighted_some, IsTaken, limited_choice, limited_from}

pub one_pick : OneLawfulPick
one_pick mechanism first past seen p q h k =
    let e : Some p ≡ Some q = sym h ∙ k in
    cc

pub prefixes : PrefixesAreLawful
prefixes mechanism first [] past h = h
prefixes mechanism first (Picked seen pick ∷ later) past h = prefixes mechanism first later past h.2
prefixes mechanism first (Changed settings ∷ later) past h = prefixes mechanism first later past h

-- ---- how many commands are taken
burst_counts : (s : ArbitrationFields) (burst : ℕ) → burst_of s ≡ Some burst → 0 < burst
burst_counts s burst h =
    elim (cases_Bool (s.burst_code == 7)) [
      | inl t ↦ (let e : None ≡ Some burst = sym (cond-true (s.burst_code == 7) None (Some (2 ^ s.burst_code)) t) ∙ h in absurd (cc))
      | inr f ↦ (let e : Some (2 ^ s.burst_code) ≡ Some burst = sym (cond-false (s.burst_code == 7) None (Some (2 ^ s.burst_code)) f) ∙ h in
          let b : 2 ^ s.burst_code ≡ burst = cc in subst (λ n. 0 < n) b (pow_pos s.burst_code))
    ]

record IsWithin (burst : Option ℕ) (count n : ℕ) : Type 0 where
  pub one : 1 ≤ n
  pub few : n ≤ count
  pub short : (b : ℕ) → burst ≡ Some b → n ≤ b

burst_within : (burst : Option ℕ) (count : ℕ) → 0 < count → ((b : ℕ) → burst ≡ Some b → 0 < b) → IsWithin burst count (within_burst burst count)
burst_within None count h k = record { one = h; few = omega arith; short = λ b e. absurd (cc) }
burst_within (Some x) count h k = let p : 0 < x = k x refl in record { one = omega arith; few = omega arith; short = λ b e. let same : x ≡ b = cc in omega arith }

one_within : (s : ArbitrationFields) (count : ℕ) → 0 < count → IsWithin (burst_of s) count 1
one_within s count h = record { one = omega arith; few = h; short = λ b e. burst_counts s b e }

all_within : (s : ArbitrationFields) (count : ℕ) → 0 < count → IsWithin (burst_of s) count (within_burst (burst_of s) count)
all_within s count h = burst_within (burst_of s) count h (burst_counts s)

-- a ready queue is found by its identifier
record IsReady (seen : List Seen) (s : Seen) : Type 0 where
  pub there : find (λ t. t.qid == s.qid) seen ≡ Some s
  pub waits : 0 < s.count

all_ready : (seen : List Seen) → AllPairs Below seen → All (IsReady seen) (ready seen)
all_ready seen a = λ k d h.
    let s : Seen = slice_index_or (ready seen) k d in
    record {
      there = All-filter (λ s. nat_lt 0 s.count) (λ s. find (λ t. t.qid == s.qid) seen ≡ Some s) seen (found_itself seen a) k d h;
      waits = ltb-true 0 s.count (filter_passes (λ s. nat_lt 0 s.count) seen k d h);
    }

round_robin_within : (s : ArbitrationFields) (count qid : ℕ) → 0 < count → IsWithin (burst_of s) count (cond (qid == 0) 1 (within_burst (burst_of s) count))
round_robin_within s count qid h = elim (qid == 0) as (λ b. IsWithin (burst_of s) count (cond b 1 (within_burst (burst_of s) count))) [ true ↦ one_within s count h | false ↦ all_within s count h ]

measured : (m : Mechanism) (s : ArbitrationFields) (seen : List Seen) (p : Pick) (queue : Seen) (n : ℕ) → find (λ t. t.qid == queue.qid) seen ≡ Some queue → p.qid ≡ queue.qid → p.n ≤ n → (1 ≤ n → 1 ≤ p.n) → IsWithin (burst_of s) queue.count n → (m ≡ Weighted → IsLevel queue.class → n ≤ weight_of s queue.class) → IsMeasured m s seen p
measured m s seen p queue n there e f g w l =
    let few : n ≤ queue.count = w.few in
    record {
      queue = queue;
      was_seen = subst (λ i. find (λ t. t.qid == i) seen ≡ Some queue) (sym e) there;
      at_least_one = g w.one;
      within_count = omega arith;
      within_burst = λ b h. let x : n ≤ b = w.short b h in omega arith;
      within_weight = λ a b. let x : n ≤ weight_of s queue.class = l a b in omega arith;
    }

-- a class that is no level has no weight
no_level : (class other : Class) → (IsLevel class → ⊥) → is_class class other ≡ true → IsLevel other → ⊥
no_level class other h e l = h (subst IsLevel (sym (same_class class other e)) l)

measured_choice : (s : ArbitrationFields) (last : Class → Option ℕ) (used : Class → ℕ) (seen : List Seen) (p : Pick) → AllPairs Below seen → Choice s last used seen p → IsMeasured Weighted s seen p
measured_choice s last used seen p a (of_admin f) =
    let is = next_of_class Admin (last Admin) seen f.queue a f.next_is in
    measured Weighted s seen p f.queue 1 is.there f.taken_is.qid f.taken_is.few f.taken_is.some (one_within s f.queue.count is.waits) (λ e l. absurd (no_level Admin f.queue.class (λ x. x) is.class_is l))
measured_choice s last used seen p a (of_urgent f) =
    let is = next_of_class Urgent (last Urgent) seen f.queue a f.next_is in
    measured Weighted s seen p f.queue (within_burst (burst_of s) f.queue.count) is.there f.taken_is.qid f.taken_is.few f.taken_is.some (all_within s f.queue.count is.waits) (λ e l. absurd (no_level Urgent f.queue.class (λ x. x) is.class_is l))
measured_choice s last used seen p a (of_level fresh level f) =
    let is = next_of_class level (last level) seen f.from.queue a f.from.next_is in
    let w = all_within s f.from.queue.count is.waits in
    let c = credit s used fresh level in
    let some : 0 < c = f.has_credit in
    let n : ℕ = min (within_burst (burst_of s) f.from.queue.count) c in
    let one : 1 ≤ within_burst (burst_of s) f.from.queue.count = w.one in
    let few : within_burst (burst_of s) f.from.queue.count ≤ f.from.queue.count = w.few in
    let small : c ≤ weight_of s level = elim fresh as (λ b. credit s used b level ≤ weight_of s level) [ true ↦ omega arith | false ↦ omega arith ] in
    let same : level ≡ f.from.queue.class = same_class level f.from.queue.class is.class_is in
    measured Weighted s seen p f.from.queue n is.there f.from.taken_is.qid f.from.taken_is.few f.from.taken_is.some
    (record { one = omega arith; few = omega arith; short = λ b e. let x = w.short b e in omega arith })
    (λ e l. subst (λ k. n ≤ weight_of s k) same (omega arith))

measured_robin : (s : ArbitrationFields) (last : Option ℕ) (seen : List Seen) (p : Pick) → AllPairs Below seen → (q : Seen) × (next last (ready seen) ≡ Some q) × IsTaken false (λ v. cond (v.qid == 0) 1 (within_burst (burst_of s) v.count)) q p → IsMeasured RoundRobin s seen p
measured_robin s last seen p a t =
    let is = next_is_one (IsReady seen) last (ready seen) t.0 (all_ready seen a) t.1 in
    measured RoundRobin s seen p t.0 (cond (t.0.qid == 0) 1 (within_burst (burst_of s) t.0.count)) is.there t.2.qid t.2.few t.2.some (round_robin_within s t.0.count t.0.qid is.waits) (λ e l. absurd (cc))

pub picks_are_measured : LawfulPicksAreMeasured
picks_are_measured RoundRobin first past seen p o h =
    measured_robin (settings_after first past) (last_served past) seen p o.ascending
    (take_from_some false (λ q. cond (q.qid == 0) 1 (within_burst (burst_of (settings_after first past)) q.count)) (next (last_served past) (ready seen)) p h)
picks_are_measured Weighted first past seen p o h =
    measured_choice (settings_after first past) (λ c. last_served_of c past) (λ l. used_in_round l past) seen p o.ascending
    (weighted_some (settings_after first past) (λ c. last_served_of c past) (λ l. used_in_round l past) seen p h)

pub limited_are_measured : LimitedPicksAreMeasured
limited_are_measured RoundRobin first past seen p o h = measured_robin (settings_after first past) (last_served past) seen p o.ascending (limited_from first past seen p h)
limited_are_measured Weighted first past seen p o h =
    measured_choice (settings_after first past) (λ c. last_served_of c past) (λ l. used_in_round l past) seen p o.ascending (limited_choice first past seen p h)

-- ---- limits
pub whole_is_limited : (m : Mechanism) (first : ArbitrationFields) (past : History) (seen : List Seen) (p : Pick) → IsObservation seen → IsLawfulPick m first past seen p → IsLimitedPick m first past seen p
whole_is_limited m first past seen p o h =
    record { whole = p; lawful = h; is_cut = record { qid = refl; fresh = refl; few = omega arith }; some = (picks_are_measured m first past seen p o h).at_least_one }

cut_of : (limit : ℕ) (o : Option Pick) (p : Pick) → option_map (cut limit) o ≡ Some p → (w : Pick) × (o ≡ Some w) × (cut limit w ≡ p)
cut_of limit None p h = absurd (cc)
cut_of limit (Some w) p h = (w, refl, cc)

pub limits_are_picks : LimitsArePicks
limits_are_picks limit m first past seen p o one h =
    let w = cut_of limit (lawful_pick m first past seen) p h in
    let n : min w.0.n limit ≡ p.n = ap (λ r. r.n) w.2 in
    let some : 1 ≤ w.0.n = (picks_are_measured m first past seen w.0 o w.1).at_least_one in
    (record { whole = w.0; lawful = w.1; is_cut = record { qid = sym (ap (λ r. r.qid) w.2); fresh = sym (ap (λ r. r.fresh) w.2); few = omega arith }; some = omega arith }, omega arith)

pub same_pick : (p q : Pick) → p.qid ≡ q.qid → p.n ≡ q.n → p.fresh ≡ q.fresh → p ≡ q
same_pick p q a b c = λ i. record { qid = a i; n = b i; fresh = c i }

pub picks_are_of_limits : PicksAreOfLimits
picks_are_of_limits m first past seen p h =
    let few : p.n ≤ h.whole.n = h.is_cut.few in
    let n : min h.whole.n p.n ≡ p.n = omega arith in
    ap (option_map (cut p.n)) h.lawful ∙ ap Some (same_pick (cut p.n h.whole) p (sym h.is_cut.qid) n (sym h.is_cut.fresh))

pub wide_limits : WideLimitsCutNothing
wide_limits limit m first past seen o wide = by (lawful_pick m first past seen) refl where
  by : (x : Option Pick) → lawful_pick m first past seen ≡ x → option_map (cut limit) x ≡ x
  by None e = refl
  by (Some p) e =
      let is = picks_are_measured m first past seen p o e in
      let is_seen : IsSeen is.queue = subst (λ (x : Option Seen). IfSome x IsSeen) is.was_seen (IfSome-find IsSeen (λ t. t.qid == p.qid) seen o.each) in
      let few : p.n ≤ is.queue.count = is.within_count in
      let fewer : is.queue.count ≤ highest_count = is_seen.count in
      ap Some (same_pick (cut limit p) p refl (omega arith) refl)

pub lawful_is_limited : LawfulRunsAreLimited
lawful_is_limited m first [] r = tt
lawful_is_limited m first (Changed settings ∷ past) r = lawful_is_limited m first past r
lawful_is_limited m first (Picked seen pick ∷ past) r = (r.0, whole_is_limited m first past seen pick r.0 r.1, lawful_is_limited m first past r.2)

pub limited_prefixes : LimitedPrefixes
limited_prefixes m first [] past h = h
limited_prefixes m first (Picked seen pick ∷ later) past h = limited_prefixes m first later past h.2
limited_prefixes m first (Changed settings ∷ later) past h = limited_prefixes m first later past h

-- ---- new rounds
ready_from_next : (last : Option ℕ) (xs : List Seen) (q : Seen) → next last xs ≡ Some q → xs ≢ []
ready_from_next last xs q h e = let none : None ≡ Some q = sym (next_nil last) ∙ (sym (ap (next last) e) ∙ h) in cc

level_spent : (s : ArbitrationFields) (last : Class → Option ℕ) (used : Class → ℕ) (seen : List Seen) (level : Class) → level_pick s last used seen false level ≡ None → ready_of level seen ≢ [] → weight_of s level ≤ used level
level_spent s last used seen level h r =
    let c = weight_of s level - used level in
    let number : Seen → ℕ = λ q. min (within_burst (burst_of s) q.count) c in
    let some = take_from false number (next (last level) (ready_of level seen)) in
    elim (cases_Bool (nat_lt 0 c)) [
      | inl t ↦ absurd (r (next_none (last level) (ready_of level seen) (take_from_none false number (next (last level) (ready_of level seen)) (sym (cond-true (nat_lt 0 c) some None t) ∙ h))))
      | inr f ↦ (let z : c ≤ 0 = ltb-false 0 c f in omega arith)
    ]

pub round_over : (s : ArbitrationFields) (last : Class → Option ℕ) (used : Class → ℕ) (seen : List Seen) (p : Pick) → weighted_pick s last used seen ≡ Some p → p.fresh ≡ true → IsRoundOver s used seen
round_over s last used seen p h fresh =
    elim (or_some (admin_pick s last used seen) (option_or (urgent_pick s last used seen) (option_or (levels_pick s last used seen false) (levels_pick s last used seen true))) p h) [
      | inl e ↦ absurd (true≢false (sym fresh ∙ (take_from_some false (λ q. 1) (next (last Admin) (ready_of Admin seen)) p e).2.fresh_is))
      | inr a ↦ elim (or_some (urgent_pick s last used seen) (option_or (levels_pick s last used seen false) (levels_pick s last used seen true)) p a.1) [
        | inl e ↦ absurd (true≢false (sym fresh ∙ (take_from_some false (λ q. within_burst (burst_of s) q.count) (next (last Urgent) (ready_of Urgent seen)) p e).2.fresh_is))
        | inr u ↦ elim (or_some (levels_pick s last used seen false) (levels_pick s last used seen true) p u.1) [
          | inl e ↦ (let l = levels_some s last used seen false p e in absurd (true≢false (sym fresh ∙ l.1.from.taken_is.fresh_is)))
          | inr e ↦ (let l = levels_some s last used seen true p e.1 in
              let high = or_none (level_pick s last used seen false High) (option_or (level_pick s last used seen false Medium) (level_pick s last used seen false Low)) e.0 in
              let low = or_none (level_pick s last used seen false Medium) (level_pick s last used seen false Low) high.1 in
              record {
                no_admin = next_none (last Admin) (ready_of Admin seen) (take_from_none false (λ q. 1) (next (last Admin) (ready_of Admin seen)) a.0);
                no_urgent = next_none (last Urgent) (ready_of Urgent seen) (take_from_none false (λ q. within_burst (burst_of s) q.count) (next (last Urgent) (ready_of Urgent seen)) u.0);
                ready_level = (l.0, l.1.level_is, ready_from_next (last l.0) (ready_of l.0 seen) l.1.from.queue l.1.from.next_is);
                spent = λ level. elim level as (λ v. IsLevel v → ready_of v seen ≢ [] → weight_of s v ≤ used v) [
                  | Admin ↦ λ x r. absurd x
                  | Urgent ↦ λ x r. absurd x
                  | High ↦ λ x r. level_spent s last used seen High high.0 r
                  | Medium ↦ λ x r. level_spent s last used seen Medium low.0 r
                  | Low ↦ λ x r. level_spent s last used seen Low low.1 r
                ];
              })
        ]
      ]
    ]

fresh_choice : (s : ArbitrationFields) (last : Class → Option ℕ) (used : Class → ℕ) (seen : List Seen) (p : Pick) → Choice s last used seen p → IsRoundOver s used seen → p.fresh ≡ true
fresh_choice s last used seen p (of_admin f) r = absurd (ready_from_next (last Admin) (ready_of Admin seen) f.queue f.next_is r.no_admin)
fresh_choice s last used seen p (of_urgent f) r = absurd (ready_from_next (last Urgent) (ready_of Urgent seen) f.queue f.next_is r.no_urgent)
fresh_choice s last used seen p (of_level true level f) r = f.from.taken_is.fresh_is
fresh_choice s last used seen p (of_level false level f) r =
    let spent : weight_of s level ≤ used level = r.spent level f.level_is (ready_from_next (last level) (ready_of level seen) f.from.queue f.from.next_is) in
    let some : 0 < weight_of s level - used level = f.has_credit in
    absurd (omega arith)

pub limited_over : (first : ArbitrationFields) (past : History) (seen : List Seen) (p : Pick) → IsLimitedPick Weighted first past seen p → p.fresh ≡ true → IsRoundOver (settings_after first past) (λ l. used_in_round l past) seen
limited_over first past seen p h fresh = round_over (settings_after first past) (λ c. last_served_of c past) (λ l. used_in_round l past) seen h.whole h.lawful (sym h.is_cut.fresh ∙ fresh)

pub fresh_due : FreshWhereDue
fresh_due first past seen p h = (
  limited_over first past seen p h,
  fresh_choice (settings_after first past) (λ c. last_served_of c past) (λ l. used_in_round l past) seen p (limited_choice first past seen p h),
)
