-- What every accounted log says of Abort commands.
use Rattle.std.proofs.Common.{◌≡◌, ℕ, ◌<◌, ◌≤◌, ◌==◌, ◌&&◌, ◌||◌, Bool, true, false, if◌then◌else◌, List, [], ◌∷◌, ◌++◌, length, map, take, Option, Some, None, refl, sym, ap, ◌∙◌, subst, arith, append_assoc, length-append, ◌⊎◌, inl, inr}
use Rattle.std.specs.Prelude.{slice_get, option_and_then, All}
use Rattle.std.proofs.lemmas.Bool.{eqb-true, eqb-false, eq-eqb, or_cases, or_parts, and_parts, false_from_ne_true, MatchBool-at_true, MatchBool-at_false}
use Rattle.std.proofs.lemmas.Option.{none-some, slice_get_within}
use Rattle.std.proofs.lemmas.List.{append-nil, nil_from_length}
use Rattle.std.proofs.lemmas.List.Elements.{All-nil, All-weaker, All-append, All-map}
use mathlib.Core.List.{IsPrefix}
use Rattle.nvme_entry.specs.Status.{abort_requested, aborted_by_deletion}
use Rattle.nvme_entry.specs.declared.submission.Sqe.{Sqe}
use Rattle.nvme_entry.specs.declared.completion.Cqe.{Cqe}
use Rattle.nvme_arbiter.specs.declared.pick.Seen.{Seen}
use Rattle.nvme_arbiter.specs.declared.pick.Pick.{Pick}
use Rattle.nvme_admin.specs.Accepted.{verdict_of}
use Rattle.nvme_admin.specs.declared.verdict.Verdict.{Verdict}
use Rattle.nvme_admin.specs.declared.verdict.Verdict.TheVariants.{BeginDelete}
use Rattle.nvme_admin.specs.declared.verdict.Verdict.TheVariants as verdict
use Rattle.nvme_log.specs.declared.event.Event.{Event}
use Rattle.nvme_log.specs.declared.event.Event.TheVariants.{Fetch, SetArbitration, OpenSq, OpenCq, Closing, Abort, Post, ClosedSq, ClosedCq}
use Rattle.nvme_log.specs.declared.event.Event.TheVariants as event
use Rattle.nvme_log.specs.Rules.{Past, FrontRules, Each}
use Rattle.nvme_log.specs.Queues.{Queue, open_sq, has_region}
use Rattle.nvme_log.specs.Places.{Fate, WasAborted, WasPicked, Waits, fetched, waiting, fate_of, is_waiting, is_aborted, entry_at}
use Rattle.nvme_log.specs.declared.place.Place.{Place}
use Rattle.nvme_log.specs.Histories.{table_history, admin_entry, picks_in}
use Rattle.nvme_log.specs.Aborts.{is_abort_entry, took_abort, is_abort_requested}
use Rattle.nvme_log.specs.Answers.{Answer, Executor, by_outcome}
use Rattle.nvme_log.specs.Completions.{own_status_by, own_dw0_by, IsOwnBy}
use Rattle.nvme_log.specs.Effects.{is_effect, has_cid, named, abort_in, abort_of, target_of, closing_of, made_by, made_of, made_last, effects_since, EffectsAtOnce}
use Rattle.nvme_log.specs.Account.{PostsOwnBy}
use Rattle.nvme_log.specs.Dispatches.{dispatched, dispatched_by, place_at}
use Rattle.nvme_log.specs.AbortLaws.{TakesCommand, IsAbortedBy, AbortedAreNotDispatched, AdminIsNotAborted, TellsAbort, AbortedAreTold, IsOldestNamed, TakesOldest, AbortsTakeTheOldest}
use Rattle.nvme_log.proofs.Aborting.{makes_aborts}
use Rattle.nvme_log.proofs.AbortEntries.{verdict_is_abort, verdict_is_delete}
use Rattle.nvme_log.proofs.Members.{IsIn, all-in, in-append_right, in-prefix, in-take, Ascending, first-is, is-first}
use Rattle.nvme_log.proofs.Prefixes.{Each-after}
use Rattle.nvme_log.proofs.Turns.{target-is, aborts-in, aborted-by, waits-in, in-waits, waiting-rises, stays, taken-waits_not, IsMadeBy, MadeAbort, made-abort, admin-unaborted}

-- ---- who isn't dispatched
-- a place doesn't wait
abbrev pub WaitsNot : Past → Place → Type 0
WaitsNot past p = is_waiting (fate_of past p.region p.index) ≡ false

-- a place is another
abbrev IsOther : ℕ → ℕ → Place → Type 0
IsOther r i p = p ≡ place_at r i → ⊥

-- an I/O pick dispatches places that wait no longer
dispatched_by-waits_not : (past : Past) (seen : List Seen) (pick : Pick) (o : Option Queue) → open_sq past pick.qid ≡ o
    → All (WaitsNot (event.Pick seen pick ∷ past)) (dispatched_by past pick o)
dispatched_by-waits_not past seen pick None is = All-nil (WaitsNot (event.Pick seen pick ∷ past))
dispatched_by-waits_not past seen pick (Some queue) is = by (pick.qid == 0) where
  own : has_region queue.region (open_sq past pick.qid) ≡ true
  own = rw (is, eq-eqb queue.region queue.region refl) refl

  by : (b : Bool) → All (WaitsNot (event.Pick seen pick ∷ past)) (if b then [] else map (place_at queue.region) (take pick.n (waiting past queue.region)))
  by true = All-nil (WaitsNot (event.Pick seen pick ∷ past))
  by false =
      All-map (WaitsNot (event.Pick seen pick ∷ past)) (place_at queue.region) (take pick.n (waiting past queue.region))
      (all-in (λ (i : ℕ). WaitsNot (event.Pick seen pick ∷ past) (place_at queue.region i)) (take pick.n (waiting past queue.region))
      (λ i h. taken-waits_not past seen pick queue.region i own h))

-- no place that was dispatched waits
still-waits_not : (e : Event) (past : Past) (ps : List Place) → All (WaitsNot past) ps → All (WaitsNot (e ∷ past)) ps
still-waits_not e past ps h = All-weaker (WaitsNot past) (WaitsNot (e ∷ past)) (λ p w. stays e past p.region p.index w) ps h

pub dispatched-waits_not : (past : Past) → All (WaitsNot past) (dispatched past)
dispatched-waits_not [] = All-nil (WaitsNot [])
dispatched-waits_not (event.Pick seen pick ∷ past) =
    All-append (WaitsNot (event.Pick seen pick ∷ past)) (dispatched past) (dispatched_by past pick (open_sq past pick.qid))
    (still-waits_not (event.Pick seen pick) past (dispatched past) (dispatched-waits_not past))
    (dispatched_by-waits_not past seen pick (open_sq past pick.qid) refl)
dispatched-waits_not (e ∷ past) = still-waits_not e past (dispatched past) (dispatched-waits_not past)

-- the pick of an admin command dispatches nothing, nor do the events after it
dispatched-turn : (between before : Past) (seen : List Seen) (pick : Pick) → picks_in between ≡ 0 → pick.qid ≡ 0
    → dispatched (between ++ event.Pick seen pick ∷ before) ≡ dispatched before
dispatched-turn [] before seen pick none admin = ap (λ (z : List Place). dispatched before ++ z) (nothing (open_sq before pick.qid)) ∙ append-nil (dispatched before) where
  nothing : (o : Option Queue) → dispatched_by before pick o ≡ []
  nothing None = refl
  nothing (Some queue) = rw (eq-eqb pick.qid 0 admin) refl
dispatched-turn (event.Pick s p ∷ between) before seen pick none admin = absurd (omega (arith, none))
dispatched-turn (e ∷ between) before seen pick none admin = dispatched-turn between before seen pick none admin

-- an aborted place doesn't wait
aborted-waits_not : (past : Past) (r i : ℕ) → is_aborted past r i ≡ true → is_waiting (fate_of past r i) ≡ false
aborted-waits_not past r i a = rw a refl

-- a place that waits isn't among those that don't
not_among : (past : Past) (r i : ℕ) → is_waiting (fate_of past r i) ≡ true → (ps : List Place) → All (WaitsNot past) ps → All (IsOther r i) ps
not_among past r i w ps h =
    All-weaker (WaitsNot past) (IsOther r i) (λ p none is. let other : is_waiting (fate_of past r i) ≡ false = subst (WaitsNot past) is none in cc) ps h

-- an aborted place isn't among those that a pick takes
not_taken : (past : Past) (r i region n : ℕ) → is_aborted past r i ≡ true → All (IsOther r i) (map (place_at region) (take n (waiting past region)))
not_taken past r i region n a =
    All-map (IsOther r i) (place_at region) (take n (waiting past region))
    (all-in (λ (k : ℕ). IsOther r i (place_at region k)) (take n (waiting past region))
    (λ k is same.
    let waits : is_waiting (fate_of past region k) ≡ true = (in-waits past region k (in-take k n (waiting past region) is)).1 in
    let here : is_waiting (fate_of past r i) ≡ true = subst (λ (p : Place). is_waiting (fate_of past p.region p.index) ≡ true) same waits in
    let none : is_waiting (fate_of past r i) ≡ false = aborted-waits_not past r i a in cc))

not_dispatched_by : (past : Past) (r i : ℕ) (pick : Pick) (o : Option Queue) → is_aborted past r i ≡ true → All (IsOther r i) (dispatched_by past pick o)
not_dispatched_by past r i pick None a = All-nil (IsOther r i)
not_dispatched_by past r i pick (Some queue) a = by (pick.qid == 0) where
  by : (b : Bool) → All (IsOther r i) (if b then [] else map (place_at queue.region) (take pick.n (waiting past queue.region)))
  by true = All-nil (IsOther r i)
  by false = not_taken past r i queue.region pick.n a

pub aborted-not_dispatched : (rules : FrontRules) (past : Past) → Each (EffectsAtOnce rules) past → (r i : ℕ) → is_aborted past r i ≡ true → All (IsOther r i) (dispatched past)
aborted-not_dispatched rules [] h r i a = cc a
aborted-not_dispatched rules (event.Pick seen pick ∷ past) h r i a =
    All-append (IsOther r i) (dispatched past) (dispatched_by past pick (open_sq past pick.qid))
    (aborted-not_dispatched rules past h.1 r i a) (not_dispatched_by past r i pick (open_sq past pick.qid) a)
aborted-not_dispatched rules (Abort region index ∷ past) h r i a = elim (or_cases (region == r && index == i) (is_aborted past r i) a) [
  | inl here ↦
      let same = and_parts (region == r) (index == i) here in
      let it = made-abort rules past region index (in-prefix (effects_since past) (made_last rules past) (Abort region index) h.0) in
      let b : Past = it.made.before in
      let none = not_among b region index (in-waits b region index it.aborted.waits).1 (dispatched b) (dispatched-waits_not b) in
      let all : dispatched b ≡ dispatched past = sym (ap dispatched it.made.stands ∙ dispatched-turn it.made.between b it.made.seen it.made.pick it.made.no_pick it.made.of_admin) in
      subst (λ (z : ℕ). All (IsOther r z) (dispatched past)) (eqb-true index i same.1)
      (subst (λ (z : ℕ). All (IsOther z index) (dispatched past)) (eqb-true region r same.0) (subst (All (IsOther region index)) all none))
  | inr earlier ↦ aborted-not_dispatched rules past h.1 r i earlier
]
aborted-not_dispatched rules (e ∷ past) h r i a = aborted-not_dispatched rules past h.1 r i a

pub aborted_are_not_dispatched : AbortedAreNotDispatched
aborted_are_not_dispatched rules sent past collected h r i a = aborted-not_dispatched rules past h.effects_at_once r i a

pub admin_is_not_aborted : AdminIsNotAborted
admin_is_not_aborted rules sent past collected h i a = admin-unaborted rules past h.effects_at_once i a

-- ---- what stays of a place that doesn't wait
-- the place doesn't wait, and its abort isn't among what the latest command still makes
record IsSettled (rules : FrontRules) (past : Past) (r i : ℕ) : Type 0 where
  pub waits_not : is_waiting (fate_of past r i) ≡ false
  pub not_due : (rest : List Event) → effects_since past ++ rest ≡ made_last rules past → IsIn (Abort r i) rest → ⊥

-- nothing is due where all effects are there
nothing_left : (xs rest made : List Event) (e : Event) → xs ≡ made → xs ++ rest ≡ made → IsIn e rest → ⊥
nothing_left xs [] made e all more h = h
nothing_left xs (x ∷ rest) made e all more h = omega (arith, ap length all, ap length more, length-append xs (x ∷ rest))

-- an effect more leaves less
less_due : (rules : FrontRules) (past : Past) (e : Event) (r i : ℕ) → IsSettled rules past r i
    → (rest : List Event) → (effects_since past ++ e ∷ []) ++ rest ≡ made_last rules past → IsIn (Abort r i) rest → ⊥
less_due rules past e r i s rest is h = s.not_due (e ∷ rest) (sym (append_assoc (effects_since past) (e ∷ []) rest) ∙ is) (inr h)

-- after a pick nothing is due that doesn't wait
not_due-pick : (rules : FrontRules) (past : Past) (seen : List Seen) (pick : Pick) (r i : ℕ) → is_waiting (fate_of past r i) ≡ false
    → IsIn (Abort r i) (made_last rules (event.Pick seen pick ∷ past)) → ⊥
not_due-pick rules past seen pick r i none h = by (pick.qid == 0) (admin_entry past) h where
  by : (b : Bool) (o : Option Sqe) → IsIn (Abort r i) (if b then made_of rules past o else []) → ⊥
  by false o k = k
  by true None k = k
  by true (Some entry) k =
      let waits : is_waiting (fate_of past r i) ≡ true = (in-waits past r i (aborted-by past (verdict_of rules.start (table_history rules past) entry) r i k).waits).1 in cc

settled-next : (rules : FrontRules) (e : Event) (past : Past) (r i : ℕ) → EffectsAtOnce rules past e → IsSettled rules past r i → IsSettled rules (e ∷ past) r i
settled-next rules (event.Pick seen pick) past r i h s = record {
  waits_not = stays (event.Pick seen pick) past r i s.waits_not;
  not_due = λ rest is among. not_due-pick rules past seen pick r i s.waits_not (subst (IsIn (Abort r i)) is among);
}
settled-next rules (Fetch region index entry) past r i h s = record {
  waits_not = s.waits_not;
  not_due = λ rest is among. nothing_left (effects_since past) rest (made_last rules past) (Abort r i) h is among;
}
settled-next rules (Post c region index cqe) past r i h s = record {
  waits_not = s.waits_not;
  not_due = λ rest is among. nothing_left (effects_since past) rest (made_last rules past) (Abort r i) h is among;
}
settled-next rules (ClosedSq qid region) past r i h s = record {
  waits_not = s.waits_not;
  not_due = λ rest is among. nothing_left (effects_since past) rest (made_last rules past) (Abort r i) h is among;
}
settled-next rules (SetArbitration settings) past r i h s = record { waits_not = s.waits_not; not_due = less_due rules past (SetArbitration settings) r i s }
settled-next rules (OpenSq qid region cqid class) past r i h s = record { waits_not = s.waits_not; not_due = less_due rules past (OpenSq qid region cqid class) r i s }
settled-next rules (OpenCq qid region) past r i h s = record { waits_not = s.waits_not; not_due = less_due rules past (OpenCq qid region) r i s }
settled-next rules (Closing qid region) past r i h s = record { waits_not = s.waits_not; not_due = less_due rules past (Closing qid region) r i s }
settled-next rules (ClosedCq qid region) past r i h s = record { waits_not = s.waits_not; not_due = less_due rules past (ClosedCq qid region) r i s }
settled-next rules (Abort region index) past r i h s = record { waits_not = stays (Abort region index) past r i s.waits_not; not_due = less_due rules past (Abort region index) r i s }

-- so it isn't aborted next
not_next : (rules : FrontRules) (past : Past) (r i : ℕ) → EffectsAtOnce rules past (Abort r i) → IsSettled rules past r i → ⊥
not_next rules past r i h s = s.not_due (Abort r i ∷ h.0) (sym (append_assoc (effects_since past) (Abort r i ∷ []) h.0) ∙ h.1) (inl refl)

-- whether it was aborted, and by whom, stays
record StaysAborted (rules : FrontRules) (past now : Past) (r i : ℕ) : Type 0 where
  pub settled : IsSettled rules now r i
  pub aborted : is_aborted now r i ≡ is_aborted past r i
  pub requested : is_abort_requested now r i ≡ is_abort_requested past r i

settled-later : (rules : FrontRules) (later past : Past) (r i : ℕ) → Each (EffectsAtOnce rules) (later ++ past) → IsSettled rules past r i → StaysAborted rules past (later ++ past) r i
settled-later rules [] past r i h s = record { settled = s; aborted = refl; requested = refl }
settled-later rules (Abort region index ∷ later) past r i h s =
    let it = settled-later rules later past r i h.1 s in
    let other : (region == r && index == i) ≡ false = false_from_ne_true (region == r && index == i) (λ here.
    let same = and_parts (region == r) (index == i) here in
    not_next rules (later ++ past) r i
    (subst (λ (z : ℕ). EffectsAtOnce rules (later ++ past) (Abort r z)) (eqb-true index i same.1)
    (subst (λ (z : ℕ). EffectsAtOnce rules (later ++ past) (Abort z index)) (eqb-true region r same.0) h.0)) it.settled) in
    record {
      settled = settled-next rules (Abort region index) (later ++ past) r i h.0 it.settled;
      aborted = rw other it.aborted;
      requested = rw other it.requested;
    }
settled-later rules (e ∷ later) past r i h s =
    let it = settled-later rules later past r i h.1 s in
    record { settled = settled-next rules e (later ++ past) r i h.0 it.settled; aborted = it.aborted; requested = it.requested }

-- a place is settled where its completion is posted
settled-posted : (rules : FrontRules) (past : Past) (c r i : ℕ) (cqe : Cqe) → EffectsAtOnce rules past (Post c r i cqe) → is_waiting (fate_of past r i) ≡ false
    → IsSettled rules past r i
settled-posted rules past c r i cqe h served = record {
  waits_not = served;
  not_due = λ rest is among. nothing_left (effects_since past) rest (made_last rules past) (Abort r i) h is among;
}

-- aborts of one region, of ascending indices, stand once each
once : (region r i : ℕ) (is : List ℕ) (xs rest : List Event) → Ascending is → xs ++ Abort r i ∷ rest ≡ map (λ (k : ℕ). Abort region k) is → IsIn (Abort r i) rest → ⊥
once region r i [] [] rest a e h = cc e
once region r i [] (x ∷ xs) rest a e h = cc e
once region r i (k ∷ is) [] rest a e h =
    let same : k ≡ i = cc e in
    let tail : rest ≡ map (λ (j : ℕ). Abort region j) is = cc e in
    let above : k < i = a.0 i (aborts-in region r i is (subst (IsIn (Abort r i)) tail h)).1 in
    omega (arith, same, above)
once region r i (k ∷ is) (x ∷ xs) rest a e h =
    let tail : xs ++ Abort r i ∷ rest ≡ map (λ (j : ℕ). Abort region j) is = cc e in
    once region r i is xs rest a.1 tail h

-- a verdict aborts each place once
made-once : (past : Past) (v : Verdict) (r i : ℕ) (xs rest : List Event) → xs ++ Abort r i ∷ rest ≡ made_by past v → IsIn (Abort r i) rest → ⊥
made-once past v r i xs rest e h =
    let it = aborted-by past v r i (subst (IsIn (Abort r i)) e (in-append_right (Abort r i) xs (Abort r i ∷ rest) (inl refl))) in
    elim it.cause [
      | inl c ↦ of_command it.qid c.0 c.2 it.queue it.is_open (e ∙ ap (made_by past) c.1)
      | inr is ↦ of_queue it.qid it.queue it.is_open (e ∙ ap (made_by past) is)
    ] where
      -- one abort at most
      short : (region : ℕ) (ks : List ℕ) (ys : List Event) → ys ++ Abort r i ∷ rest ≡ map (λ (k : ℕ). Abort region k) (take 1 ks) → ⊥
      short region [] [] f = cc f
      short region [] (y ∷ ys) f = cc f
      short region (k ∷ ks) ys f = two ys rest f h where
        two : (ys rest : List Event) → ys ++ Abort r i ∷ rest ≡ Abort region k ∷ [] → IsIn (Abort r i) rest → ⊥
        two ys [] f g = g
        two ys (z ∷ rest) f g = omega (arith, ap length f, length-append ys (Abort r i ∷ z ∷ rest))

      of_command : (s c : ℕ) → (s ≡ 0 → ⊥) → (queue : Queue) → open_sq past s ≡ Some queue → xs ++ Abort r i ∷ rest ≡ made_by past (verdict.Abort s c) → ⊥
      of_command s c io queue is f =
          short queue.region (named past queue.region c) xs (f ∙ ap (abort_in past c) (target-is past s queue io is))

      of_queue : (q : ℕ) (queue : Queue) → open_sq past q ≡ Some queue → xs ++ Abort r i ∷ rest ≡ made_by past (BeginDelete q) → ⊥
      of_queue q queue is f = closes xs (f ∙ ap (closing_of past q) is) where
        closes : (ys : List Event) → ys ++ Abort r i ∷ rest ≡ Closing q queue.region ∷ map (λ (k : ℕ). Abort queue.region k) (waiting past queue.region) → ⊥
        closes [] g = cc g
        closes (y ∷ ys) g =
            let tail : ys ++ Abort r i ∷ rest ≡ map (λ (k : ℕ). Abort queue.region k) (waiting past queue.region) = cc g in
            once queue.region r i (waiting past queue.region) ys rest (waiting-rises past queue.region) tail h

-- the latest pick's command aborts each place once
last-once : (rules : FrontRules) (past : Past) (r i : ℕ) (xs rest : List Event) → xs ++ Abort r i ∷ rest ≡ made_last rules past → IsIn (Abort r i) rest → ⊥
last-once rules [] r i [] rest e h = cc e
last-once rules [] r i (x ∷ xs) rest e h = cc e
last-once rules (event.Pick seen pick ∷ past) r i xs rest e h = by (pick.qid == 0) (admin_entry past) e where
  none : (ys : List Event) → ys ++ Abort r i ∷ rest ≡ [] → ⊥
  none [] f = cc f
  none (y ∷ ys) f = cc f

  by : (b : Bool) (o : Option Sqe) → xs ++ Abort r i ∷ rest ≡ (if b then made_of rules past o else []) → ⊥
  by false o f = none xs f
  by true None f = none xs f
  by true (Some entry) f = made-once past (verdict_of rules.start (table_history rules past) entry) r i xs rest f h
last-once rules (x ∷ past) r i xs rest e h = last-once rules past r i xs rest e h

-- a place is settled from its abort on
settled-abort : (rules : FrontRules) (past : Past) (r i : ℕ) → EffectsAtOnce rules past (Abort r i) → IsSettled rules (Abort r i ∷ past) r i
settled-abort rules past r i h = record {
  waits_not = aborted-waits_not (Abort r i ∷ past) r i (rw (eq-eqb r r refl, eq-eqb i i refl) refl);
  not_due = λ rest is among. last-once rules past r i (effects_since past) rest (sym (append_assoc (effects_since past) (Abort r i ∷ []) rest) ∙ is) among;
}

settled-aborted : (rules : FrontRules) (past : Past) → Each (EffectsAtOnce rules) past → (r i : ℕ) → is_aborted past r i ≡ true → IsSettled rules past r i
settled-aborted rules [] h r i a = cc a
settled-aborted rules (Abort region index ∷ past) h r i a = elim (or_cases (region == r && index == i) (is_aborted past r i) a) [
  | inl here ↦
      let same = and_parts (region == r) (index == i) here in
      subst (λ (z : ℕ). IsSettled rules (Abort region index ∷ past) r z) (eqb-true index i same.1)
      (subst (λ (z : ℕ). IsSettled rules (Abort region index ∷ past) z index) (eqb-true region r same.0) (settled-abort rules past region index h.0))
  | inr earlier ↦ settled-next rules (Abort region index) past r i h.0 (settled-aborted rules past h.1 r i earlier)
]
settled-aborted rules (e ∷ past) h r i a = settled-next rules e past r i h.0 (settled-aborted rules past h.1 r i a)

-- ---- what an aborted place is told
-- the place of the entry that an admin pick takes
record TakenPlace (past : Past) (entry : Sqe) : Type 0 where
  pub place : ℕ
  pub oldest : slice_get (waiting past 0) 0 ≡ Some place
  pub is_there : entry_at past 0 place ≡ Some entry

place-of : (past : Past) (entry : Sqe) → admin_entry past ≡ Some entry → TakenPlace past entry
place-of past entry h = by (slice_get (waiting past 0) 0) refl h where
  by : (o : Option ℕ) → slice_get (waiting past 0) 0 ≡ o → option_and_then (entry_at past 0) o ≡ Some entry → TakenPlace past entry
  by None is k = absurd (none-some entry k)
  by (Some i) is k = record { place = i; oldest = is; is_there = k }

entry-of : (rules : FrontRules) (before : Past) (pick : Pick) (i : ℕ) (v : Verdict) (t : TakesCommand rules before pick i v) → admin_entry before ≡ Some t.entry
entry-of rules before pick i v t = ap (option_and_then (entry_at before 0)) t.oldest ∙ t.is_there

-- the command that made an abort aborted its place
stands-from : (rules : FrontRules) (past : Past) (r i : ℕ) (made : IsMadeBy rules past (Abort r i)) (v : Verdict) → verdict_of rules.start (table_history rules made.before) made.entry ≡ v
    → IsAbortedBy rules (Abort r i ∷ past) v r i
stands-from rules past r i made v is =
    let at = place-of made.before made.entry made.entry_is in
    record {
      later = [];
      between = made.between;
      before = made.before;
      seen = made.seen;
      pick = made.pick;
      stands = ap (λ (z : Past). Abort r i ∷ z) made.stands;
      no_pick = made.no_pick;
      place = at.place;
      taken = record { of_admin = made.of_admin; oldest = at.oldest; entry = made.entry; is_there = at.is_there; comes_to = is };
    }

-- and did so one event later
later-by : (rules : FrontRules) (e : Event) (past : Past) (v : Verdict) (r i : ℕ) → IsAbortedBy rules past v r i → IsAbortedBy rules (e ∷ past) v r i
later-by rules e past v r i h = record {
  later = e ∷ h.later;
  between = h.between;
  before = h.before;
  seen = h.seen;
  pick = h.pick;
  stands = ap (λ (z : Past). e ∷ z) h.stands;
  no_pick = h.no_pick;
  place = h.place;
  taken = h.taken;
}

-- an Abort command or a Delete aborted a place
abbrev HasCause : FrontRules → Past → ℕ → ℕ → Type 0
HasCause rules past r i =
    ((sqid : ℕ) × (cid : ℕ) × IsAbortedBy rules past (verdict.Abort sqid cid) r i) ⊎ ((qid : ℕ) × IsAbortedBy rules past (verdict.BeginDelete qid) r i)

cause-later : (rules : FrontRules) (e : Event) (past : Past) (r i : ℕ) → HasCause rules past r i → HasCause rules (e ∷ past) r i
cause-later rules e past r i (inl c) = inl (c.0, c.1, later-by rules e past (verdict.Abort c.0 c.1) r i c.2)
cause-later rules e past r i (inr c) = inr (c.0, later-by rules e past (verdict.BeginDelete c.0) r i c.1)

cause-here : (rules : FrontRules) (past : Past) (r i : ℕ) → MadeAbort rules past r i → HasCause rules (Abort r i ∷ past) r i
cause-here rules past r i it = elim it.aborted.cause [
  | inl c ↦ inl (it.aborted.qid, c.0, stands-from rules past r i it.made (verdict.Abort it.aborted.qid c.0) c.1)
  | inr is ↦ inr (it.aborted.qid, stands-from rules past r i it.made (verdict.BeginDelete it.aborted.qid) is)
]

cause-of : (rules : FrontRules) (past : Past) → Each (EffectsAtOnce rules) past → (r i : ℕ) → is_aborted past r i ≡ true → HasCause rules past r i
cause-of rules [] h r i a = cc a
cause-of rules (Abort region index ∷ past) h r i a = elim (or_cases (region == r && index == i) (is_aborted past r i) a) [
  | inl here ↦
      let same = and_parts (region == r) (index == i) here in
      subst (λ (z : ℕ). HasCause rules (Abort region index ∷ past) r z) (eqb-true index i same.1)
      (subst (λ (z : ℕ). HasCause rules (Abort region index ∷ past) z index) (eqb-true region r same.0)
      (cause-here rules past region index (made-abort rules past region index (in-prefix (effects_since past) (made_last rules past) (Abort region index) h.0))))
  | inr earlier ↦ cause-later rules (Abort region index) past r i (cause-of rules past h.1 r i earlier)
]
cause-of rules (e ∷ past) h r i a = cause-later rules e past r i (cause-of rules past h.1 r i a)

-- whether the latest pick took an Abort command
took-turn : (between before : Past) (seen : List Seen) (pick : Pick) → picks_in between ≡ 0
    → took_abort (between ++ event.Pick seen pick ∷ before) ≡ (pick.qid == 0 && is_abort_entry (admin_entry before))
took-turn [] before seen pick none = refl
took-turn (event.Pick s p ∷ between) before seen pick none = absurd (omega (arith, none))
took-turn (e ∷ between) before seen pick none = took-turn between before seen pick none

-- no Abort command took what wasn't aborted
unaborted-unrequested : (past : Past) (r i : ℕ) → is_aborted past r i ≡ false → is_abort_requested past r i ≡ false
unaborted-unrequested [] r i a = refl
unaborted-unrequested (Abort region index ∷ past) r i a =
    let both = or_parts (region == r && index == i) (is_aborted past r i) a in
    rw both.0 (unaborted-unrequested past r i both.1)
unaborted-unrequested (e ∷ past) r i a = unaborted-unrequested past r i a

or_nothing : (b c : Bool) → c ≡ false → (b || c) ≡ b
or_nothing true c e = refl
or_nothing false c e = e

-- at its abort: an Abort command took a place where the latest pick took one
requested-here : (rules : FrontRules) (past : Past) (r i : ℕ) → Each (EffectsAtOnce rules) (Abort r i ∷ past) → is_abort_requested (Abort r i ∷ past) r i ≡ took_abort past
requested-here rules past r i h =
    let fresh : is_aborted past r i ≡ false = false_from_ne_true (is_aborted past r i) (λ a. not_next rules past r i h.0 (settled-aborted rules past h.1 r i a)) in
    rw (eq-eqb r r refl, eq-eqb i i refl) (or_nothing (took_abort past) (is_abort_requested past r i) (unaborted-unrequested past r i fresh))

-- whether an Abort command took a place, by the command that aborted it
record IsTold (past : Past) (r i : ℕ) (entry : Sqe) : Type 0 where
  pub aborted : is_aborted past r i ≡ true
  pub requested : is_abort_requested past r i ≡ is_abort_entry (Some entry)

requested-by : (rules : FrontRules) (past : Past) → Each (EffectsAtOnce rules) past → (v : Verdict) (r i : ℕ) (by : IsAbortedBy rules past v r i) → IsTold past r i by.taken.entry
requested-by rules past h v r i by =
    let y : Past = by.between ++ event.Pick by.seen by.pick ∷ by.before in
    let all : Each (EffectsAtOnce rules) (by.later ++ Abort r i ∷ y) = subst (Each (EffectsAtOnce rules)) by.stands h in
    let here : Each (EffectsAtOnce rules) (Abort r i ∷ y) = Each-after (EffectsAtOnce rules) by.later (Abort r i ∷ y) all in
    let kept = settled-later rules by.later (Abort r i ∷ y) r i all (settled-abort rules y r i here.0) in
    let admin : (by.pick.qid == 0) ≡ true = eq-eqb by.pick.qid 0 by.taken.of_admin in
    let abort : is_aborted (Abort r i ∷ y) r i ≡ true = rw (eq-eqb r r refl, eq-eqb i i refl) refl in
    record {
      aborted = ap (λ (z : Past). is_aborted z r i) by.stands ∙ kept.aborted ∙ abort;
      requested = ap (λ (z : Past). is_abort_requested z r i) by.stands ∙ kept.requested ∙ requested-here rules y r i here
          ∙ took-turn by.between by.before by.seen by.pick by.no_pick
          ∙ ap (λ (b : Bool). b && is_abort_entry (admin_entry by.before)) admin
          ∙ ap is_abort_entry (entry-of rules by.before by.pick by.place v by.taken);
    }

-- the completion of an aborted place
record IsToldStatus (past : Past) (r i : ℕ) (cqe : Cqe) : Type 0 where
  pub status : cqe.status ≡ (if is_abort_requested past r i then abort_requested else aborted_by_deletion)
  pub dw0 : cqe.dw0 ≡ 0

told-status : (rules : FrontRules) (executor : Executor) (past : Past) → Each (EffectsAtOnce rules) past → Each (PostsOwnBy rules executor) past → (r i : ℕ) → is_aborted past r i ≡ true
    → (later before : Past) (c : ℕ) (cqe : Cqe) → past ≡ later ++ Post c r i cqe ∷ before → IsToldStatus past r i cqe
told-status rules executor past h own r i a later before c cqe is =
    let all : Each (EffectsAtOnce rules) (later ++ Post c r i cqe ∷ before) = subst (Each (EffectsAtOnce rules)) is h in
    let here : Each (EffectsAtOnce rules) (Post c r i cqe ∷ before) = Each-after (EffectsAtOnce rules) later (Post c r i cqe ∷ before) all in
    let posts : Each (PostsOwnBy rules executor) (Post c r i cqe ∷ before) = Each-after (PostsOwnBy rules executor) later (Post c r i cqe ∷ before) (subst (Each (PostsOwnBy rules executor)) is own) in
    let settled = settled-next rules (Post c r i cqe) before r i here.0 (settled-posted rules before c r i cqe here.0 posts.0.1) in
    let kept = settled-later rules later (Post c r i cqe ∷ before) r i all settled in
    let aborted : is_aborted before r i ≡ true = sym kept.aborted ∙ ap (λ (z : Past). is_aborted z r i) (sym is) ∙ a in
    let requested : is_abort_requested before r i ≡ is_abort_requested past r i = sym kept.requested ∙ ap (λ (z : Past). is_abort_requested z r i) (sym is) in
    let it : IsOwnBy rules (executor (place_at r i)) before c r i cqe = posts.0.2 in
    let answer : Answer = executor (place_at r i) it.entry in
    let first : own_status_by rules answer before r i it.entry ≡ (if is_abort_requested before r i then abort_requested else aborted_by_deletion) = rw aborted refl in
    let zero : own_dw0_by rules answer before r i it.entry ≡ 0 = rw aborted refl in
    record {
      status = it.status ∙ first ∙ ap (λ (b : Bool). if b then abort_requested else aborted_by_deletion) requested;
      dw0 = it.dw0 ∙ zero;
    }

pub aborted_are_told_by : (rules : FrontRules) (executor : Executor) (past : Past) → Each (EffectsAtOnce rules) past → Each (PostsOwnBy rules executor) past
    → (r i : ℕ) → is_aborted past r i ≡ true → TellsAbort rules past r i
aborted_are_told_by rules executor past effects own r i a = record {
  aborted_by = cause-of rules past effects r i a;
  by_command = λ sqid cid by later before c cqe is.
      let t = told-status rules executor past effects own r i a later before c cqe is in
      let q = requested-by rules past effects (verdict.Abort sqid cid) r i by in
      t.status ∙ ap (λ (b : Bool). if b then abort_requested else aborted_by_deletion)
      (q.requested ∙ verdict_is_abort rules.start (table_history rules by.before) by.taken.entry sqid cid by.taken.comes_to);
  with_queue = λ qid by later before c cqe is.
      let t = told-status rules executor past effects own r i a later before c cqe is in
      let q = requested-by rules past effects (verdict.BeginDelete qid) r i by in
      t.status ∙ ap (λ (b : Bool). if b then abort_requested else aborted_by_deletion)
      (q.requested ∙ verdict_is_delete rules.start (table_history rules by.before) by.taken.entry qid by.taken.comes_to);
  dw0 = λ later before c cqe is. (told-status rules executor past effects own r i a later before c cqe is).dw0;
}

pub aborted_are_told : AbortedAreTold
aborted_are_told rules sent past collected h = aborted_are_told_by rules (by_outcome rules) past h.effects_at_once h.posts_own

-- ---- what an Abort command takes
-- what a taken command makes
pub made-pick : (rules : FrontRules) (before : Past) (seen : List Seen) (pick : Pick) (i : ℕ) (v : Verdict) → TakesCommand rules before pick i v
    → made_last rules (event.Pick seen pick ∷ before) ≡ made_by before v
made-pick rules before seen pick i v t =
    ap (λ (b : Bool). if b then made_of rules before (admin_entry before) else []) (eq-eqb pick.qid 0 t.of_admin)
    ∙ ap (made_of rules before) (entry-of rules before pick i v t)
    ∙ ap (made_by before) t.comes_to

-- is what it makes until the next pick
pub made-turn : (rules : FrontRules) (between before : Past) (seen : List Seen) (pick : Pick) → picks_in between ≡ 0
    → made_last rules (between ++ event.Pick seen pick ∷ before) ≡ made_last rules (event.Pick seen pick ∷ before)
made-turn rules [] before seen pick none = refl
made-turn rules (event.Pick s p ∷ between) before seen pick none = absurd (omega (arith, none))
made-turn rules (e ∷ between) before seen pick none = made-turn rules between before seen pick none

-- a command that makes something makes its first at once
at-first : (rules : FrontRules) (between before : Past) (seen : List Seen) (pick : Pick) → picks_in between ≡ 0
    → Each (EffectsAtOnce rules) (between ++ event.Pick seen pick ∷ before) → effects_since (between ++ event.Pick seen pick ∷ before) ≡ []
    → (made_last rules (event.Pick seen pick ∷ before) ≡ [] → ⊥) → between ≡ []
at-first rules [] before seen pick none h empty some = refl
at-first rules (event.Pick s p ∷ between) before seen pick none h empty some = absurd (omega (arith, none))
at-first rules (Fetch region index entry ∷ between) before seen pick none h empty some = absurd (some (sym (made-turn rules between before seen pick none) ∙ sym h.0 ∙ empty))
at-first rules (Post c region index cqe ∷ between) before seen pick none h empty some = absurd (some (sym (made-turn rules between before seen pick none) ∙ sym h.0 ∙ empty))
at-first rules (ClosedSq qid region ∷ between) before seen pick none h empty some = absurd (some (sym (made-turn rules between before seen pick none) ∙ sym h.0 ∙ empty))
at-first rules (e ∷ between) before seen pick none h empty some =
    absurd (omega (arith, ap length empty, length-append (effects_since (between ++ event.Pick seen pick ∷ before)) (e ∷ [])))

-- an Abort command makes one abort at most
few-aborts : (region : ℕ) (is : List ℕ) → length (map (λ (i : ℕ). Abort region i) (take 1 is)) ≤ 1
few-aborts region [] = omega arith
few-aborts region (i ∷ is) = omega arith

abort_of-few : (past : Past) (sqid cid : ℕ) → length (abort_of past sqid cid) ≤ 1
abort_of-few past sqid cid = by (target_of past sqid) where
  by : (o : Option Queue) → length (abort_in past cid o) ≤ 1
  by None = omega arith
  by (Some queue) = few-aborts queue.region (named past queue.region cid)

-- and nothing else
in-aborts : (e : Event) (region : ℕ) (is : List ℕ) → IsIn e (map (λ (i : ℕ). Abort region i) is) → (r : ℕ) × (i : ℕ) × (e ≡ Abort r i)
in-aborts e region [] h = absurd h
in-aborts e region (i ∷ is) (inl same) = (region, i, sym same)
in-aborts e region (i ∷ is) (inr h) = in-aborts e region is h

-- the identifier of an entry
record HasCid (cid : ℕ) (o : Option Sqe) : Type 0 where
  pub entry : Sqe
  pub is : o ≡ Some entry
  pub same : entry.cid ≡ cid

cid-of : (cid : ℕ) (o : Option Sqe) → has_cid cid o ≡ true → HasCid cid o
cid-of cid None h = cc h
cid-of cid (Some entry) h = record { entry = entry; is = refl; same = eqb-true entry.cid cid h }

waits-only : (f : Fate) → is_waiting f ≡ true → f ≡ Waits
waits-only Waits h = refl
waits-only WasAborted h = cc h
waits-only WasPicked h = cc h

-- what an Abort command aborts is the oldest with its identifier
oldest-in : (past : Past) (sqid cid : ℕ) (queue : Queue) → (sqid ≡ 0 → ⊥) → open_sq past sqid ≡ Some queue → (i : ℕ) → IsIn i (take 1 (named past queue.region cid))
    → IsOldestNamed past sqid cid queue.region i
oldest-in past sqid cid queue io is_open i h =
    let r : ℕ = queue.region in
    let it = first-is (λ (k : ℕ). has_cid cid (entry_at past r k)) (waiting past r) i (waiting-rises past r) h in
    let has = cid-of cid (entry_at past r i) it.passes in
    record {
      of_io = io;
      queue = queue;
      is_open = is_open;
      region = refl;
      waits = waits-only (fate_of past r i) (in-waits past r i it.is_in).1;
      entry = has.entry;
      is_there = has.is;
      named = has.same;
      oldest = λ k other lt waits there same.
          let no : has_cid cid (entry_at past r k) ≡ false =
          it.first k (waits-in past r k (slice_get_within (fetched past r) k other there) (ap is_waiting waits)) lt in
          let yes : has_cid cid (entry_at past r k) ≡ true = ap (has_cid cid) there ∙ eq-eqb other.cid cid same in
          cc;
    }

oldest-of : (past : Past) (sqid cid r i : ℕ) → IsIn (Abort r i) (abort_of past sqid cid) → IsOldestNamed past sqid cid r i
oldest-of past sqid cid r i h = by (sqid == 0) refl (open_sq past sqid) refl h where
  by : (b : Bool) → (sqid == 0) ≡ b → (o : Option Queue) → open_sq past sqid ≡ o → IsIn (Abort r i) (abort_in past cid (if b then None else o)) → IsOldestNamed past sqid cid r i
  by true z o is k = absurd k
  by false z None is k = absurd k
  by false z (Some queue) is k =
      let it = aborts-in queue.region r i (take 1 (named past queue.region cid)) k in
      subst (λ (z : ℕ). IsOldestNamed past sqid cid z i) it.0 (oldest-in past sqid cid queue (eqb-false sqid 0 z) is i it.1)

-- and it aborts that one
oldest-made : (past : Past) (sqid cid r i : ℕ) → IsOldestNamed past sqid cid r i → abort_of past sqid cid ≡ Abort r i ∷ []
oldest-made past sqid cid r i h =
    let region : ℕ = h.queue.region in
    let there : entry_at past region i ≡ Some h.entry = ap (λ (z : ℕ). entry_at past z i) h.region ∙ h.is_there in
    let waits : fate_of past region i ≡ Waits = ap (λ (z : ℕ). fate_of past z i) h.region ∙ h.waits in
    let first : take 1 (named past region cid) ≡ i ∷ [] =
    is-first (λ (k : ℕ). has_cid cid (entry_at past region k)) (waiting past region) i (waiting-rises past region) (record {
      is_in = waits-in past region i (slice_get_within (fetched past region) i h.entry there) (ap is_waiting waits);
      passes = ap (has_cid cid) there ∙ eq-eqb h.entry.cid cid h.named;
      first = λ k is lt.
          false_from_ne_true (has_cid cid (entry_at past region k)) (λ yes.
          let has = cid-of cid (entry_at past region k) yes in
          h.oldest k has.entry lt
          (ap (λ (z : ℕ). fate_of past z k) (sym h.region) ∙ waits-only (fate_of past region k) (in-waits past region k is).1)
          (ap (λ (z : ℕ). entry_at past z k) (sym h.region) ∙ has.is) has.same);
    }) in
    ap (abort_in past cid) (target-is past sqid h.queue h.of_io h.is_open)
    ∙ ap (map (λ (k : ℕ). Abort region k)) first
    ∙ ap (λ (z : ℕ). Abort z i ∷ []) h.region

-- the oldest event of some
pub record EndsWith (xs : List Event) : Type 0 where
  pub rest : List Event
  pub last : Event
  pub is : xs ≡ rest ++ last ∷ []

pub ends-with : (x : Event) (xs : List Event) → EndsWith (x ∷ xs)
ends-with x [] = record { rest = []; last = x; is = refl }
ends-with x (y ∷ xs) = let it = ends-with y xs in record { rest = x ∷ it.rest; last = it.last; is = ap (λ (z : List Event). x ∷ z) it.is }

-- an event right after a pick whose command makes one event is that one
first-made : (rules : FrontRules) (past : Past) (e one : Event) → EffectsAtOnce rules past e → effects_since past ≡ [] → made_last rules past ≡ one ∷ [] → e ≡ one
first-made rules past e one h none made = by (is_effect e) refl where
  by : (b : Bool) → is_effect e ≡ b → e ≡ one
  by true eff =
      let p = MatchBool-at_true (IsPrefix (effects_since past ++ e ∷ []) (made_last rules past)) (effects_since past ≡ made_last rules past) eff h in
      let all : e ∷ p.0 ≡ one ∷ [] = ap (λ (z : List Event). (z ++ e ∷ []) ++ p.0) (sym none) ∙ p.1 ∙ made in
      cc
  by false eff =
      let all = MatchBool-at_false (IsPrefix (effects_since past ++ e ∷ []) (made_last rules past)) (effects_since past ≡ made_last rules past) eff h in
      let no : [] ≡ one ∷ [] = sym none ∙ all ∙ made in
      cc

pub aborts_take_the_oldest_by : (rules : FrontRules) (past : Past) → Each (EffectsAtOnce rules) past → effects_since past ≡ made_last rules past
    → (later before : Past) (seen : List Seen) (pick : Pick) (i sqid cid : ℕ) → past ≡ later ++ event.Pick seen pick ∷ before
    → TakesCommand rules before pick i (verdict.Abort sqid cid) → TakesOldest later before sqid cid
aborts_take_the_oldest_by rules past effects whole later before seen pick i sqid cid is t =
    let after : Past = event.Pick seen pick ∷ before in
    let all : Each (EffectsAtOnce rules) (later ++ after) = subst (Each (EffectsAtOnce rules)) is effects in
    let made : made_last rules after ≡ abort_of before sqid cid = made-pick rules before seen pick i (verdict.Abort sqid cid) t in
    record {
      at_once = λ rest between e cut none eff.
          let X : Past = between ++ after in
          let whole : Each (EffectsAtOnce rules) (rest ++ e ∷ X) =
          subst (Each (EffectsAtOnce rules)) (append_assoc rest (e ∷ between) after) (subst (λ (z : Past). Each (EffectsAtOnce rules) (z ++ after)) cut all) in
          let here : Each (EffectsAtOnce rules) (e ∷ X) = Each-after (EffectsAtOnce rules) rest (e ∷ X) whole in
          let p = MatchBool-at_true (IsPrefix (effects_since X ++ e ∷ []) (made_last rules X)) (effects_since X ≡ made_last rules X) eff here.0 in
          let makes : made_last rules X ≡ abort_of before sqid cid = made-turn rules between before seen pick none ∙ made in
          let size : length ((effects_since X ++ e ∷ []) ++ p.0) ≡ length (abort_of before sqid cid) = ap length (p.1 ∙ makes) in
          let sizes = length-append (effects_since X ++ e ∷ []) p.0 in
          let more = length-append (effects_since X) (e ∷ []) in
          let few = abort_of-few before sqid cid in
          let nothing : effects_since X ≡ [] = nil_from_length (effects_since X) (omega (arith, size, sizes, more, few)) in
          let some : made_last rules after ≡ [] → ⊥ = λ none. omega (arith, size, sizes, more, ap length (sym made ∙ none)) in
          let among = makes_aborts before sqid cid in (
            at-first rules between before seen pick none here.1 nothing some,
            in-aborts e among.region among.indices (subst (IsIn e) (makes ∙ among.are) (in-prefix (effects_since X) (made_last rules X) e p)),
          );
      takes = λ rest r j cut.
          let whole : Each (EffectsAtOnce rules) (rest ++ Abort r j ∷ after) =
          subst (Each (EffectsAtOnce rules)) (append_assoc rest (Abort r j ∷ []) after) (subst (λ (z : Past). Each (EffectsAtOnce rules) (z ++ after)) cut all) in
          let here : Each (EffectsAtOnce rules) (Abort r j ∷ after) = Each-after (EffectsAtOnce rules) rest (Abort r j ∷ after) whole in
          oldest-of before sqid cid r j (subst (IsIn (Abort r j)) made (in-prefix (effects_since after) (made_last rules after) (Abort r j) here.0));
      finds = λ r j oldest.
          let one : made_last rules after ≡ Abort r j ∷ [] = made ∙ oldest-made before sqid cid r j oldest in
          follows rules past later after whole is all one refl;
    } where
      follows : (rules : FrontRules) (past later after : Past) → effects_since past ≡ made_last rules past → past ≡ later ++ after → Each (EffectsAtOnce rules) (later ++ after)
          → {one : Event} → made_last rules after ≡ one ∷ [] → effects_since after ≡ [] → (rest : Past) × (later ≡ rest ++ one ∷ [])
      follows rules past [] after whole is all {one} made none =
          absurd (let no : [] ≡ one ∷ [] = sym none ∙ ap effects_since (sym is) ∙ whole ∙ ap (made_last rules) is ∙ made in cc)
      follows rules past (e ∷ later) after whole is all {one} made none =
          let it = ends-with e later in
          let split : (e ∷ later) ++ after ≡ it.rest ++ it.last ∷ after = ap (λ (z : Past). z ++ after) it.is ∙ append_assoc it.rest (it.last ∷ []) after in
          let here : Each (EffectsAtOnce rules) (it.last ∷ after) = Each-after (EffectsAtOnce rules) it.rest (it.last ∷ after) (subst (Each (EffectsAtOnce rules)) split all) in
          let same : it.last ≡ one = first-made rules after it.last one here.0 none made in
          (it.rest, it.is ∙ ap (λ (z : Event). it.rest ++ z ∷ []) same)

pub aborts_take_the_oldest : AbortsTakeTheOldest
aborts_take_the_oldest rules sent past collected h = aborts_take_the_oldest_by rules past h.effects_at_once h.effects_whole
