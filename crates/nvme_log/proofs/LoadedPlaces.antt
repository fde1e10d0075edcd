-- The places of a log: each abort is of a place that waits, no more places were picked than are left, and a fetched place waits.
use Rattle.std.proofs.Common.{◌≡◌, ℕ, ◌+◌, ◌<◌, ◌≤◌, ◌==◌, ◌&&◌, Bool, true, false, if◌then◌else◌, List, [], ◌∷◌, ◌++◌, length, map, take, find, Option, Some, None, refl, sym, ap, ◌∙◌, subst, arith, append_assoc, length-append, length-drop, ◌⊎◌, inl, inr}
use Rattle.std.specs.List.{flat_map}
use Rattle.std.proofs.lemmas.Bool.{eqb-true, eqb-false, ne_eqb, cases_Bool, or_cases, and_parts, false_from_ne_true}
use Rattle.std.proofs.lemmas.Option.{none-some, same_Some}
use Rattle.std.proofs.lemmas.List.{length_push}
use Rattle.nvme_entry.specs.declared.submission.Sqe.{Sqe}
use Rattle.nvme_arbiter.specs.Settings.{ArbitrationFields}
use Rattle.nvme_arbiter.specs.Laws.{IsMeasured}
use Rattle.nvme_arbiter.specs.Lawful.{IsLawfulRun}
use Rattle.nvme_arbiter.specs.History.{settings_after}
use Rattle.nvme_arbiter.specs.Limits.{queue_limit}
use Rattle.nvme_arbiter.specs.declared.settings.Mechanism.{Mechanism}
use Rattle.nvme_arbiter.specs.declared.pick.Seen.{Seen}
use Rattle.nvme_arbiter.specs.declared.pick.Pick.{Pick}
use Rattle.nvme_arbiter.proofs.PickLaws.{picks_are_measured}
use Rattle.nvme_admin.specs.History.{TableHistory}
use Rattle.nvme_admin.specs.QueueTable.{QueueTable}
use Rattle.nvme_admin.specs.Accepted.{queue_table, verdict_of}
use Rattle.nvme_admin.specs.Changes.{IsDue}
use Rattle.nvme_admin.specs.declared.verdict.Verdict.{Verdict}
use Rattle.nvme_admin.specs.declared.verdict.Verdict.TheVariants.{Done, BeginDelete, CloseCq}
use Rattle.nvme_admin.specs.declared.verdict.Verdict.TheVariants as verdict
use Rattle.nvme_admin.proofs.Changed.{TellsChange-entry}
use Rattle.nvme_log.specs.declared.event.Event.{Event}
use Rattle.nvme_log.specs.declared.event.Event.TheVariants.{Fetch, SetArbitration, OpenSq, OpenCq, Closing, Abort, Post, ClosedSq, ClosedCq}
use Rattle.nvme_log.specs.declared.event.Event.TheVariants as event
use Rattle.nvme_log.specs.Rules.{Past, FrontRules, Each, upto}
use Rattle.nvme_log.specs.Queues.{Queue, open_sq, open_cq, has_region}
use Rattle.nvme_log.specs.Places.{fetched, picked, waiting, is_aborted, unaborted_below, entry_at, seen_as, observation_of}
use Rattle.nvme_log.specs.Histories.{arbitration_of, table_history, admin_entry}
use Rattle.nvme_log.specs.Effects.{has_cid, named, abort_in, closing_of, closed_cq_of, made_by, made_of, made_last, effects_since, EffectsAtOnce}
use Rattle.nvme_log.specs.Account.{Observed}
use Rattle.nvme_log.proofs.Members.{IsIn, in-filter}
use Rattle.nvme_log.proofs.Turns.{in-waits, admin-stays, region-io}
use Rattle.nvme_log.proofs.Waiting.{left, unaborted, waiting_is-drop, fetched-fetch, fetched-fetch_other, unaborted-fetch, waiting-fetch, picked-pick, picked-pick_other, waiting-pick_other, waiting-abort, few_picked-abort_at, is_aborted-abort_other}

-- ---- each abort is of a place that waits
-- an event aborts no place but one that waits
abbrev pub AbortsWaiting : Past → Event → Type 0
AbortsWaiting past (Abort r i) = IsIn i (waiting past r)
AbortsWaiting past e = Unit {0}

-- nor does any of some events, one after the other
abbrev AbortInTurn : Past → List Event → Type 0
AbortInTurn past [] = Unit {0}
AbortInTurn past (e ∷ rest) = AbortsWaiting past e × AbortInTurn (e ∷ past) rest

-- the aborts of all places of a region that wait
all-wait : (r : ℕ) (is : List ℕ) (past : Past) → waiting past r ≡ is → AbortInTurn past (map (λ (i : ℕ). Abort r i) is)
all-wait r [] past h = tt
all-wait r (i ∷ is) past h = (subst (IsIn i) (sym h) (inl refl), all-wait r is (Abort r i ∷ past) (waiting-abort past r i is h))

-- the abort of the first of some that wait
first-waits : (r : ℕ) (is : List ℕ) (past : Past) → ((i : ℕ) → IsIn i is → IsIn i (waiting past r)) → AbortInTurn past (map (λ (i : ℕ). Abort r i) (take 1 is))
first-waits r [] past h = tt
first-waits r (i ∷ is) past h = (h i (inl refl), tt)

module _ (rules : FrontRules) where
  -- the pick of an admin command leaves the places of I/O queues
  waits-beside : (past : Past) (seen : List Seen) (pick : Pick) → Each (EffectsAtOnce rules) past → pick.qid ≡ 0
      → (q : ℕ) (queue : Queue) → open_sq past q ≡ Some queue → (q ≡ 0 → ⊥) → waiting (event.Pick seen pick ∷ past) queue.region ≡ waiting past queue.region
  waits-beside past seen pick h admin q queue is io = waiting-pick_other past seen pick queue.region other where
    other : has_region queue.region (open_sq past pick.qid) ≡ false
    other = rw (admin, admin-stays rules past h) (ne_eqb 0 queue.region (λ e. region-io rules past h q queue is io (sym e)))

  -- what a verdict makes after the pick of its command
  made-in_turn : (past : Past) (seen : List Seen) (pick : Pick) → Each (EffectsAtOnce rules) past → pick.qid ≡ 0
      → (t : QueueTable) (v : Verdict) → IsDue t v → AbortInTurn (event.Pick seen pick ∷ past) (made_by past v)
  made-in_turn past seen pick h admin t (Done status dw0) due = tt
  made-in_turn past seen pick h admin t (verdict.OpenSq q r c k) due = (tt, tt)
  made-in_turn past seen pick h admin t (verdict.OpenCq q r) due = (tt, tt)
  made-in_turn past seen pick h admin t (verdict.SetArbitration settings) due = (tt, tt)
  made-in_turn past seen pick h admin t (CloseCq q) due = by (open_cq past q) where
    by : (o : Option ℕ) → AbortInTurn (event.Pick seen pick ∷ past) (closed_cq_of q o)
    by None = tt
    by (Some r) = (tt, tt)
  made-in_turn past seen pick h admin t (BeginDelete q) due = by (open_sq past q) refl where
    by : (o : Option Queue) → open_sq past q ≡ o → AbortInTurn (event.Pick seen pick ∷ past) (closing_of past q o)
    by None is = tt
    by (Some queue) is = (tt, all-wait queue.region (waiting past queue.region) (Closing q queue.region ∷ event.Pick seen pick ∷ past) (waits-beside past seen pick h admin q queue is due.not_admin))
  made-in_turn past seen pick h admin t (verdict.Abort s c) due = by (s == 0) refl (open_sq past s) refl where
    by : (b : Bool) → (s == 0) ≡ b → (o : Option Queue) → open_sq past s ≡ o → AbortInTurn (event.Pick seen pick ∷ past) (abort_in past c (if b then None else o))
    by true z o is = tt
    by false z None is = tt
    by false z (Some queue) is = first-waits queue.region (named past queue.region c) (event.Pick seen pick ∷ past)
        (λ i among. subst (IsIn i) (sym (waits-beside past seen pick h admin s queue is (eqb-false s 0 z)))
        (in-filter (λ (j : ℕ). has_cid c (entry_at past queue.region j)) i (waiting past queue.region) among).0)

  -- what the command of a pick makes
  pick-in_turn : (past : Past) (seen : List Seen) (pick : Pick) → Each (EffectsAtOnce rules) past → AbortInTurn (event.Pick seen pick ∷ past) (made_last rules (event.Pick seen pick ∷ past))
  pick-in_turn past seen pick h = by (pick.qid == 0) refl (admin_entry past) where
    by : (b : Bool) → (pick.qid == 0) ≡ b → (o : Option Sqe) → AbortInTurn (event.Pick seen pick ∷ past) (if b then made_of rules past o else [])
    by false z o = tt
    by true z None = tt
    by true z (Some entry) =
        let t : TableHistory = table_history rules past in
        made-in_turn past seen pick h (eqb-true pick.qid 0 z) (queue_table rules.start t) (verdict_of rules.start t entry) (TellsChange-entry rules.start t entry).due

  -- nothing is left where all effects are there
  none-left : (past : Past) (xs rest made : List Event) → xs ≡ made → xs ++ rest ≡ made → AbortInTurn past rest
  none-left past xs [] made e f = tt
  none-left past xs (y ∷ rest) made e f = absurd (omega (arith, length-append xs (y ∷ rest), ap length e, ap length f))

  -- what the latest pick's command still makes
  due-in_turn : (past : Past) → Each (EffectsAtOnce rules) past → (rest : List Event) → effects_since past ++ rest ≡ made_last rules past → AbortInTurn past rest
  due-in_turn [] h [] e = tt
  due-in_turn [] h (x ∷ rest) e = cc e
  due-in_turn (event.Pick seen pick ∷ past) h rest e = subst (AbortInTurn (event.Pick seen pick ∷ past)) (sym e) (pick-in_turn past seen pick h.1)
  due-in_turn (Fetch region index entry ∷ past) h rest e = none-left (Fetch region index entry ∷ past) (effects_since past) rest (made_last rules past) h.0 e
  due-in_turn (Post c r i cqe ∷ past) h rest e = none-left (Post c r i cqe ∷ past) (effects_since past) rest (made_last rules past) h.0 e
  due-in_turn (ClosedSq qid region ∷ past) h rest e = none-left (ClosedSq qid region ∷ past) (effects_since past) rest (made_last rules past) h.0 e
  due-in_turn (SetArbitration settings ∷ past) h rest e = (due-in_turn past h.1 (SetArbitration settings ∷ rest) (sym (append_assoc (effects_since past) (SetArbitration settings ∷ []) rest) ∙ e)).1
  due-in_turn (OpenSq qid region cqid class ∷ past) h rest e =
      (due-in_turn past h.1 (OpenSq qid region cqid class ∷ rest) (sym (append_assoc (effects_since past) (OpenSq qid region cqid class ∷ []) rest) ∙ e)).1
  due-in_turn (OpenCq qid region ∷ past) h rest e = (due-in_turn past h.1 (OpenCq qid region ∷ rest) (sym (append_assoc (effects_since past) (OpenCq qid region ∷ []) rest) ∙ e)).1
  due-in_turn (Closing qid region ∷ past) h rest e = (due-in_turn past h.1 (Closing qid region ∷ rest) (sym (append_assoc (effects_since past) (Closing qid region ∷ []) rest) ∙ e)).1
  due-in_turn (Abort region index ∷ past) h rest e = (due-in_turn past h.1 (Abort region index ∷ rest) (sym (append_assoc (effects_since past) (Abort region index ∷ []) rest) ∙ e)).1
  due-in_turn (ClosedCq qid region ∷ past) h rest e = (due-in_turn past h.1 (ClosedCq qid region ∷ rest) (sym (append_assoc (effects_since past) (ClosedCq qid region ∷ []) rest) ∙ e)).1

  -- a place that is aborted next waits
  pub aborted-waits : (past : Past) → Each (EffectsAtOnce rules) past → (r i : ℕ) → EffectsAtOnce rules past (Abort r i) → IsIn i (waiting past r)
  aborted-waits past h r i next = (due-in_turn past h (Abort r i ∷ next.0) (sym (append_assoc (effects_since past) (Abort r i ∷ []) next.0) ∙ next.1)).0

-- ---- a pick takes places that wait
-- what is found stands in the list, and passes the test
find-in : {T : Type 0} (t : T → Bool) (x : T) (xs : List T) → find t xs ≡ Some x → IsIn x xs × (t x ≡ true)
find-in t x [] h = cc h
find-in t x (y ∷ xs) h = by (t y) refl h (find-in t x xs) where
  by : (b : Bool) → t y ≡ b → (if b then Some y else find t xs) ≡ Some x → (find t xs ≡ Some x → IsIn x xs × (t x ≡ true)) → IsIn x (y ∷ xs) × (t x ≡ true)
  by true e k f = let same : y ≡ x = same_Some _ _ k in (inl same, ap t (sym same) ∙ e)
  by false e k f = (inr (f k).0, (f k).1)

-- an element of two lists is one of either
append-in : {T : Type 0} (x : T) (xs ys : List T) → IsIn x (xs ++ ys) → IsIn x xs ⊎ IsIn x ys
append-in x [] ys h = inr h
append-in x (y ∷ xs) ys (inl e) = inl (inl e)
append-in x (y ∷ xs) ys (inr h) = elim (append-in x xs ys h) [
  | inl a ↦ inl (inr a)
  | inr b ↦ inr b
]

-- an element of lists that were joined is one of such a list
flat_map-in : {X T : Type 0} (f : X → List T) (y : T) (xs : List X) → IsIn y (flat_map f xs) → (x : X) × IsIn y (f x)
flat_map-in f y [] h = absurd h
flat_map-in f y (x ∷ xs) h = elim (append-in y (f x) (flat_map f xs) h) [
  | inl a ↦ (x, a)
  | inr b ↦ flat_map-in f y xs b
]

-- what is seen of a queue
pub record IsSeenAs (past : Past) (s : Seen) : Type 0 where
  pub queue : Queue
  pub is_open : open_sq past s.qid ≡ Some queue
  pub counts : s.count ≡ length (waiting past queue.region)

-- an open queue is seen as it is
seen-as : (past : Past) (q : ℕ) (o : Option Queue) → open_sq past q ≡ o → (s : Seen) → IsIn s (seen_as past q o) → IsSeenAs past s
seen-as past q None is s h = absurd h
seen-as past q (Some queue) is s (inl e) = record { queue = queue; is_open = ap (λ (x : Seen). open_sq past x.qid) (sym e) ∙ is; counts = ap (λ (x : Seen). x.count) (sym e) }
seen-as past q (Some queue) is s (inr k) = absurd k

-- so is each that is observed
pub seen-in : (past : Past) (s : Seen) → IsIn s (observation_of past) → IsSeenAs past s
seen-in past s h =
    let it = flat_map-in (λ (q : ℕ). seen_as past q (open_sq past q)) s (upto queue_limit) h in
    seen-as past it.0 (open_sq past it.0) refl s it.1

-- a queue with a region
pub region-of : (r : ℕ) (o : Option Queue) (queue : Queue) → o ≡ Some queue → has_region r o ≡ true → queue.region ≡ r
region-of r None queue is h = absurd (none-some queue is)
region-of r (Some other) queue is h = ap (λ (x : Queue). x.region) (sym (same_Some _ _ is)) ∙ eqb-true other.region r h

-- a lawful pick takes no more than waits
pub pick-few : (m : Mechanism) (s : ArbitrationFields) (past : Past) (pick : Pick) (r : ℕ) → has_region r (open_sq past pick.qid) ≡ true
    → IsMeasured m s (observation_of past) pick → pick.n ≤ length (waiting past r)
pick-few m s past pick r own it =
    let found = find-in (λ (x : Seen). x.qid == pick.qid) it.queue (observation_of past) it.was_seen in
    let sees = seen-in past it.queue found.0 in
    let is_open : open_sq past pick.qid ≡ Some sees.queue = ap (open_sq past) (sym (eqb-true it.queue.qid pick.qid found.1)) ∙ sees.is_open in
    let same : sees.queue.region ≡ r = region-of r (open_sq past pick.qid) sees.queue is_open own in
    let count : it.queue.count ≡ length (waiting past r) = sees.counts ∙ ap (λ (z : ℕ). length (waiting past z)) same in
    omega (arith, it.within_count, count)

-- ---- what was picked and aborted of a region
-- no more places were picked than are left, and only fetched ones were aborted
pub record AreCounted (past : Past) (r : ℕ) : Type 0 where
  pub few_picked : picked past r ≤ length (unaborted past r)
  pub were_fetched : (i : ℕ) → is_aborted past r i ≡ true → i < length (fetched past r)

-- the next place of a region isn't aborted
pub is-fresh : (past : Past) (r : ℕ) → AreCounted past r → is_aborted past r (length (fetched past r)) ≡ false
is-fresh past r h = false_from_ne_true (is_aborted past r (length (fetched past r))) (λ e. let lt = h.were_fetched (length (fetched past r)) e in omega (arith, lt))

-- a fetch from the region leaves one more
counted-fetch : (past : Past) (r index : ℕ) (entry : Sqe) → AreCounted past r → AreCounted (Fetch r index entry ∷ past) r
counted-fetch past r index entry h =
    let more : length (unaborted (Fetch r index entry ∷ past) r) ≡ length (unaborted past r) + 1 =
    ap length (unaborted-fetch past r index entry (is-fresh past r h)) ∙ length_push (unaborted past r) (length (fetched past r)) in
    let one : length (fetched (Fetch r index entry ∷ past) r) ≡ length (fetched past r) + 1 = ap length (fetched-fetch past r index entry) ∙ length_push (fetched past r) entry in
    record {
      few_picked = omega (arith, more, h.few_picked);
      were_fetched = λ i a. let lt = h.were_fetched i a in omega (arith, lt, one);
    }

-- one from another region changes nothing
counted-fetch_other : (past : Past) (region index : ℕ) (entry : Sqe) (r : ℕ) → (region ≡ r → ⊥) → AreCounted past r → AreCounted (Fetch region index entry ∷ past) r
counted-fetch_other past region index entry r other h =
    let same : length (fetched (Fetch region index entry ∷ past) r) ≡ length (fetched past r) = ap length (fetched-fetch_other past region index entry r other) in
    record {
      few_picked = subst (λ (z : ℕ). picked past r ≤ unaborted_below past r z) (sym same) h.few_picked;
      were_fetched = λ i a. let lt = h.were_fetched i a in omega (arith, lt, same);
    }

-- a pick takes no more than waits, or is of another region
counted-pick : (past : Past) (seen : List Seen) (pick : Pick) (r : ℕ) → (has_region r (open_sq past pick.qid) ≡ true → pick.n ≤ length (waiting past r))
    → AreCounted past r → AreCounted (event.Pick seen pick ∷ past) r
counted-pick past seen pick r few h = elim (cases_Bool (has_region r (open_sq past pick.qid))) [
  | inl own ↦ record {
    few_picked = omega (arith, picked-pick past seen pick r own, few own, h.few_picked, ap length (waiting_is-drop past r), length-drop (picked past r) (unaborted past r));
    were_fetched = h.were_fetched;
  }
  | inr other ↦ record { few_picked = omega (arith, picked-pick_other past seen pick r other, h.few_picked); were_fetched = h.were_fetched }
]

-- an element cuts its list in two
pub record Cut (x : ℕ) (xs : List ℕ) : Type 0 where
  pub before : List ℕ
  pub behind : List ℕ
  pub is : xs ≡ before ++ x ∷ behind

-- each element does
pub cut-at : (x : ℕ) (xs : List ℕ) → IsIn x xs → Cut x xs
cut-at x [] h = absurd h
cut-at x (y ∷ xs) (inl e) = record { before = []; behind = xs; is = ap (λ (z : ℕ). z ∷ xs) e }
cut-at x (y ∷ xs) (inr h) = let it = cut-at x xs h in record { before = y ∷ it.before; behind = it.behind; is = ap (λ (z : List ℕ). y ∷ z) it.is }

-- an abort takes a place that waits away
counted-abort : (past : Past) (r i : ℕ) → IsIn i (waiting past r) → AreCounted past r → AreCounted (Abort r i ∷ past) r
counted-abort past r i among h =
    let cut = cut-at i (waiting past r) among in
    record {
      few_picked = few_picked-abort_at past r i cut.before cut.behind cut.is;
      were_fetched = λ k a. elim (or_cases (r == r && i == k) (is_aborted past r k) a) [
        | inl here ↦ (let same : i ≡ k = eqb-true i k (and_parts (r == r) (i == k) here).1 in let lt = (in-waits past r i among).0 in omega (arith, same, lt))
        | inr earlier ↦ h.were_fetched k earlier
      ];
    }

-- one of another region changes nothing
counted-abort_other : (past : Past) (region i r : ℕ) → (region ≡ r → ⊥) → AreCounted past r → AreCounted (Abort region i ∷ past) r
counted-abort_other past region i r other h =
    let same : (λ (j : ℕ). is_aborted (Abort region i ∷ past) r j) ≡ (λ (j : ℕ). is_aborted past r j) = λ t j. is_aborted-abort_other past region i r j other t in
    record {
      few_picked = subst (λ (a : ℕ → Bool). picked past r ≤ unaborted_by a) (sym same) h.few_picked;
      were_fetched = λ k a. h.were_fetched k (sym (is_aborted-abort_other past region i r k other) ∙ a);
    } where
      unaborted_by : (ℕ → Bool) → ℕ
      unaborted_by a = length (left a (length (fetched past r)))

-- it is so in each log with lawful picks whose aborts commands made
pub are-counted : (rules : FrontRules) (past : Past) → Each (EffectsAtOnce rules) past → Each Observed past
    → IsLawfulRun rules.mechanism rules.start.settings (arbitration_of past) → (r : ℕ) → AreCounted past r
are-counted rules [] h o l r = record { few_picked = omega arith; were_fetched = λ i a. cc a }
are-counted rules (Fetch region index entry ∷ past) h o l r = elim (cases_Bool (region == r)) [
  | inl e ↦ subst (λ (z : ℕ). AreCounted (Fetch z index entry ∷ past) r) (sym (eqb-true region r e)) (counted-fetch past r index entry (are-counted rules past h.1 o.1 l r))
  | inr e ↦ counted-fetch_other past region index entry r (eqb-false region r e) (are-counted rules past h.1 o.1 l r)
]
are-counted rules (event.Pick seen pick ∷ past) h o l r =
    counted-pick past seen pick r
    (λ own. pick-few rules.mechanism (settings_after rules.start.settings (arbitration_of past)) past pick r own
    (subst (λ (z : List Seen). IsMeasured rules.mechanism (settings_after rules.start.settings (arbitration_of past)) z pick) o.0
    (picks_are_measured rules.mechanism rules.start.settings (arbitration_of past) seen pick l.0 l.1)))
    (are-counted rules past h.1 o.1 l.2 r)
are-counted rules (Abort region index ∷ past) h o l r = elim (cases_Bool (region == r)) [
  | inl e ↦ subst (λ (z : ℕ). AreCounted (Abort z index ∷ past) r) (sym (eqb-true region r e))
      (counted-abort past r index (subst (λ (z : ℕ). IsIn index (waiting past z)) (eqb-true region r e) (aborted-waits rules past h.1 region index h.0)) (are-counted rules past h.1 o.1 l r))
  | inr e ↦ counted-abort_other past region index r (eqb-false region r e) (are-counted rules past h.1 o.1 l r)
]
are-counted rules (SetArbitration settings ∷ past) h o l r = let it = are-counted rules past h.1 o.1 l r in record { few_picked = it.few_picked; were_fetched = it.were_fetched }
are-counted rules (e ∷ past) h o l r = let it = are-counted rules past h.1 o.1 l r in record { few_picked = it.few_picked; were_fetched = it.were_fetched }

-- so a fetched place waits behind the others
pub fetched-waits : (past : Past) (r index : ℕ) (entry : Sqe) → AreCounted past r → length (waiting (Fetch r index entry ∷ past) r) ≡ length (waiting past r) + 1
fetched-waits past r index entry h =
    ap length (waiting-fetch past r index entry (is-fresh past r h) h.few_picked) ∙ length_push (waiting past r) (length (fetched past r))
