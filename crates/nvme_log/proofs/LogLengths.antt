-- An accounted log has at most five events for each command that was submitted.
use Rattle.std.proofs.Common.{◌≡◌, ℕ, zero, suc, ◌+◌, ◌*◌, ◌<◌, ◌≤◌, ◌==◌, ◌&&◌, nat_lt, Bool, true, false, not, if◌then◌else◌, List, [], ◌∷◌, ◌++◌, length, map, take, sum_by, Option, Some, None, refl, sym, ap, ◌∙◌, subst, arith, append_assoc, length-append, inl, inr}
use Rattle.std.specs.Prelude.{is_some}
use Rattle.std.proofs.lemmas.Bool.{eqb-true, eq-eqb, and_parts, cases_Bool, cases_lt, lt-ltb, ltb-true}
use Rattle.std.proofs.lemmas.List.{append-nil, length_push}
use Rattle.std.proofs.lemmas.List.Sums.{sum_by-append, sum_by-cons}
use Rattle.nvme_entry.specs.declared.submission.Sqe.{Sqe}
use Rattle.nvme_entry.specs.declared.completion.Cqe.{Cqe}
use Rattle.nvme_arbiter.specs.Lawful.{IsLawfulRun}
use Rattle.nvme_arbiter.specs.History.{settings_after}
use Rattle.nvme_arbiter.specs.Laws.{IsMeasured}
use Rattle.nvme_arbiter.specs.declared.pick.Seen.{Seen}
use Rattle.nvme_arbiter.specs.declared.pick.Pick.{Pick}
use Rattle.nvme_arbiter.proofs.PickLaws.{picks_are_measured}
use Rattle.nvme_admin.specs.Accepted.{verdict_of}
use Rattle.nvme_admin.specs.declared.verdict.Verdict.{Verdict}
use Rattle.nvme_admin.specs.declared.verdict.Verdict.TheVariants.{Done, BeginDelete, CloseCq}
use Rattle.nvme_admin.specs.declared.verdict.Verdict.TheVariants as verdict
use Rattle.nvme_log.specs.declared.event.Event.{Event}
use Rattle.nvme_log.specs.declared.event.Event.TheVariants.{Fetch, SetArbitration, OpenSq, OpenCq, Closing, Abort, Post, ClosedSq, ClosedCq}
use Rattle.nvme_log.specs.declared.event.Event.TheVariants as event
use Rattle.nvme_log.specs.Rules.{Past, FrontRules, Each, upto}
use Rattle.nvme_log.specs.Queues.{Queue, Deletion, open_sq, open_cq, has_region, pending}
use Rattle.nvme_log.specs.Places.{fetched, waiting, fate_of, is_waiting, observation_of, is_served, one_if}
use Rattle.nvme_log.specs.declared.place.Place.{Place}
use Rattle.nvme_log.specs.Histories.{arbitration_of, table_history, admin_entry, picks_in}
use Rattle.nvme_log.specs.Answers.{Executor, by_outcome}
use Rattle.nvme_log.specs.Completions.{is_posted, posts_of}
use Rattle.nvme_log.specs.Effects.{closing_of, closed_cq_of, made_by, made_of, made_last, effects_since, EffectsAtOnce}
use Rattle.nvme_log.specs.Account.{ServedWhileOpen, Observed, Deletes, PostsOwnBy, IsAccountBy}
use Rattle.nvme_log.specs.Dispatches.{place_at}
use Rattle.nvme_log.specs.Bounds.{events_each, sent_below, LogsAreShort}
use Rattle.nvme_log.proofs.Aborting.{makes_aborts}
use Rattle.nvme_log.proofs.Counting.{sums_differ}
use Rattle.nvme_log.proofs.LoadedPlaces.{aborted-waits, pick-few}
use Rattle.nvme_log.proofs.Members.{IsIn}
use Rattle.nvme_log.proofs.PostCounts.{times_at, taken-out, own-place, fetched_places, posted_places, fetched-times, posted-times, posted-below}
use Rattle.nvme_log.proofs.Posts.{one_post, posts_of-none}
use Rattle.nvme_log.proofs.Prefixes.{fetched-after}
use Rattle.nvme_log.proofs.Turns.{in-waits, stays, taken-waits_not}
use Rattle.nvme_log.proofs.Waiting.{fetched-fetch}

-- ---- lists of places
-- a list has as many items as it weighs where each weighs 1
ones : (xs : List Place) → sum_by (λ (p : Place). 1) xs ≡ length xs
ones [] = refl
ones (x ∷ xs) = sum_by-cons (λ (p : Place). 1) x xs ∙ omega (arith, ones xs)

-- a list in which no place stands more often than in another is no longer
pub fewer : (xs ys : List Place) → ((r i : ℕ) → times_at r i xs ≤ times_at r i ys) → length xs ≤ length ys
fewer [] ys h = omega arith
fewer (x ∷ xs) ys h =
    let test : ℕ → ℕ → Place → ℕ = λ r i p. one_if (p.region == r && p.index == i) in
    let it = taken-out x ys (omega (arith, h x.region x.index, sum_by-cons (test x.region x.index) x xs, own-place x)) in
    let rest = fewer xs it.left (λ r i. omega (arith, h r i, sum_by-cons (test r i) x xs, it.weighs (test r i))) in
    omega (arith, rest, it.weighs (λ (p : Place). 1), ones ys, ones it.left)

-- ---- places that were taken from those that wait
-- the first place that a pick takes
abbrev first_of : Past → Option Queue → List Place
first_of past None = []
first_of past (Some queue) = map (place_at queue.region) (take 1 (waiting past queue.region))

-- the first place of each pick, and each place that was aborted
abbrev pub taken_places : Past → List Place
taken_places [] = []
taken_places (event.Pick seen pick ∷ past) = first_of past (open_sq past pick.qid) ++ taken_places past
taken_places (Abort r i ∷ past) = place_at r i ∷ taken_places past
taken_places (e ∷ past) = taken_places past

-- each pick takes some places that wait of an open queue
pub record TakesWaiting (past : Past) (pick : Pick) : Type 0 where
  pub queue : Queue
  pub is_open : open_sq past pick.qid ≡ Some queue
  pub some : 0 < pick.n
  pub first : ℕ
  pub others : List ℕ
  pub wait : waiting past queue.region ≡ first ∷ others

abbrev pub TakesSome : Past → Event → Type 0
TakesSome past (event.Pick seen pick) = TakesWaiting past pick
TakesSome past e = Unit {0}

-- a list that isn't empty has a first element
record Split (xs : List ℕ) : Type 0 where
  pub first : ℕ
  pub others : List ℕ
  pub is : xs ≡ first ∷ others

split-of : (xs : List ℕ) → 0 < length xs → Split xs
split-of [] h = absurd (omega (arith, h))
split-of (x ∷ xs) h = record { first = x; others = xs; is = refl }

pub takes-waiting : (rules : FrontRules) (past : Past) (seen : List Seen) (pick : Pick) → is_some (open_sq past pick.qid) ≡ true → seen ≡ observation_of past
    → IsMeasured rules.mechanism (settings_after rules.start.settings (arbitration_of past)) seen pick → TakesWaiting past pick
takes-waiting rules past seen pick opened observed measured = by (open_sq past pick.qid) refl opened where
  here : IsMeasured rules.mechanism (settings_after rules.start.settings (arbitration_of past)) (observation_of past) pick
  here = subst (λ (z : List Seen). IsMeasured rules.mechanism (settings_after rules.start.settings (arbitration_of past)) z pick) observed measured

  by : (o : Option Queue) → open_sq past pick.qid ≡ o → is_some o ≡ true → TakesWaiting past pick
  by None is some = cc some
  by (Some queue) is some =
      let own : has_region queue.region (open_sq past pick.qid) ≡ true = rw is (eq-eqb queue.region queue.region refl) in
      let few = pick-few rules.mechanism (settings_after rules.start.settings (arbitration_of past)) past pick queue.region own here in
      let one : 1 ≤ pick.n = measured.at_least_one in
      let split = split-of (waiting past queue.region) (omega (arith, few, one)) in
      record { queue = queue; is_open = is; some = omega (arith, one); first = split.first; others = split.others; wait = split.is }

pub each-takes : (rules : FrontRules) (past : Past) → Each (ServedWhileOpen rules) past → Each Observed past → IsLawfulRun rules.mechanism rules.start.settings (arbitration_of past)
    → Each TakesSome past
each-takes rules [] s o l = tt
each-takes rules (event.Pick seen pick ∷ past) s o l = (
  takes-waiting rules past seen pick s.0 o.0 (picks_are_measured rules.mechanism rules.start.settings (arbitration_of past) seen pick l.0 l.1),
  each-takes rules past s.1 o.1 l.2,
)
each-takes rules (SetArbitration settings ∷ past) s o l = (tt, each-takes rules past s.1 o.1 l)
each-takes rules (e ∷ past) s o l = (tt, each-takes rules past s.1 o.1 l)

-- the first of them
first-is : (past : Past) (pick : Pick) (t : TakesWaiting past pick) → taken_places (event.Pick [] pick ∷ past) ≡ place_at t.queue.region t.first ∷ taken_places past
first-is past pick t =
    ap (λ (o : Option Queue). first_of past o ++ taken_places past) t.is_open
    ∙ ap (λ (is : List ℕ). map (place_at t.queue.region) (take 1 is) ++ taken_places past) t.wait

-- what was served stays served
served-stays : (e : Event) (past : Past) (r i : ℕ) → is_served past r i ≡ true → is_served (e ∷ past) r i ≡ true
served-stays e past r i h =
    let both = and_parts (nat_lt i (length (fetched past r))) (not (is_waiting (fate_of past r i))) h in
    let below : i < length (fetched past r) = ltb-true i (length (fetched past r)) both.0 in
    let more = fetched-after (e ∷ []) past r in
    let still : i < length (fetched (e ∷ past) r) = omega (arith, below, ap length more.1, length-append (fetched past r) more.0) in
    let none : is_waiting (fate_of (e ∷ past) r i) ≡ false = stays e past r i (unwaiting (is_waiting (fate_of past r i)) both.1) in
    rw (lt-ltb i (length (fetched (e ∷ past) r)) still, none) refl where
      unwaiting : (b : Bool) → not b ≡ true → b ≡ false
      unwaiting true k = cc k
      unwaiting false k = refl

-- a place that waits isn't served, and is where it waits no longer
waiting-unserved : (past : Past) (r i : ℕ) → IsIn i (waiting past r) → is_served past r i ≡ false
waiting-unserved past r i h = let it = in-waits past r i h in rw (lt-ltb i (length (fetched past r)) it.0, it.1) refl

now-served : (e : Event) (past : Past) (r i : ℕ) → IsIn i (waiting past r) → is_waiting (fate_of (e ∷ past) r i) ≡ false → is_served (e ∷ past) r i ≡ true
now-served e past r i h none =
    let it = in-waits past r i h in
    let more = fetched-after (e ∷ []) past r in
    rw (lt-ltb i (length (fetched (e ∷ past) r)) (omega (arith, it.0, ap length more.1, length-append (fetched past r) more.0)), none) refl

-- a place more is taken, which waited and is served then
one-taken : (e : Event) (past : Past) (region index : ℕ) (r i : ℕ) → IsIn index (waiting past region) → is_waiting (fate_of (e ∷ past) region index) ≡ false
    → times_at r i (taken_places past) ≤ one_if (is_served past r i)
    → one_if (region == r && index == i) + times_at r i (taken_places past) ≤ one_if (is_served (e ∷ past) r i)
one-taken e past region index r i waits none h = elim (cases_Bool (region == r && index == i)) [
  | inl here ↦
      let same = and_parts (region == r) (index == i) here in
      let is_r : region ≡ r = eqb-true region r same.0 in
      let is_i : index ≡ i = eqb-true index i same.1 in
      let at : IsIn i (waiting past r) = subst (λ (z : ℕ). IsIn z (waiting past r)) is_i (subst (λ (z : ℕ). IsIn index (waiting past z)) is_r waits) in
      let gone : is_waiting (fate_of (e ∷ past) r i) ≡ false =
      subst (λ (z : ℕ). is_waiting (fate_of (e ∷ past) r z) ≡ false) is_i (subst (λ (z : ℕ). is_waiting (fate_of (e ∷ past) z index) ≡ false) is_r none) in
      let before : one_if (is_served past r i) ≡ 0 = ap one_if (waiting-unserved past r i at) in
      let after : one_if (is_served (e ∷ past) r i) ≡ 1 = ap one_if (now-served e past r i at gone) in
      let one : one_if (region == r && index == i) ≡ 1 = ap one_if here in
      omega (arith, before, after, one, h)
  | inr other ↦
      let none : one_if (region == r && index == i) ≡ 0 = ap one_if other in
      let more = grows e past r i in
      omega (arith, none, more, h)
] where
  grows : (e : Event) (past : Past) (r i : ℕ) → one_if (is_served past r i) ≤ one_if (is_served (e ∷ past) r i)
  grows e past r i = elim (cases_Bool (is_served past r i)) [
    | inl is ↦ (let a : one_if (is_served past r i) ≡ 1 = ap one_if is in let b : one_if (is_served (e ∷ past) r i) ≡ 1 = ap one_if (served-stays e past r i is) in omega (arith, a, b))
    | inr isnt ↦ (let a : one_if (is_served past r i) ≡ 0 = ap one_if isnt in omega (arith, a))
  ]

-- an event that takes none
none-taken : (e : Event) (past : Past) (r i : ℕ) → times_at r i (taken_places past) ≤ one_if (is_served past r i) → times_at r i (taken_places past) ≤ one_if (is_served (e ∷ past) r i)
none-taken e past r i h = elim (cases_Bool (is_served past r i)) [
  | inl is ↦ (let a : one_if (is_served past r i) ≡ 1 = ap one_if is in let b : one_if (is_served (e ∷ past) r i) ≡ 1 = ap one_if (served-stays e past r i is) in omega (arith, a, b, h))
  | inr isnt ↦ (let a : one_if (is_served past r i) ≡ 0 = ap one_if isnt in omega (arith, a, h))
]

-- so each place is taken once, and only where it is served
pub taken-served : (rules : FrontRules) (past : Past) → Each (EffectsAtOnce rules) past → Each TakesSome past → (r i : ℕ) → times_at r i (taken_places past) ≤ one_if (is_served past r i)
taken-served rules [] h t r i = omega arith
taken-served rules (event.Pick seen pick ∷ past) h t r i =
    let it = t.0 in
    let own : has_region it.queue.region (open_sq past pick.qid) ≡ true = rw it.is_open (eq-eqb it.queue.region it.queue.region refl) in
    let waits : IsIn it.first (waiting past it.queue.region) = subst (IsIn it.first) (sym it.wait) (inl refl) in
    let none = taken-waits_not past seen pick it.queue.region it.first own (first-in it.first it.others (waiting past it.queue.region) pick.n it.wait it.some) in
    let one = one-taken (event.Pick seen pick) past it.queue.region it.first r i waits none (taken-served rules past h.1 t.1 r i) in
    let are : taken_places (event.Pick seen pick ∷ past) ≡ place_at it.queue.region it.first ∷ taken_places past = first-is past pick it in
    let more = sum_by-cons (λ (p : Place). one_if (p.region == r && p.index == i)) (place_at it.queue.region it.first) (taken_places past) in
    omega (arith, one, more, ap (times_at r i) are) where
      first-in : (x : ℕ) (xs ys : List ℕ) (n : ℕ) → ys ≡ x ∷ xs → 0 < n → IsIn x (take n ys)
      first-in x xs [] n e lt = cc e
      first-in x xs (y ∷ ys) zero e lt = absurd (omega (arith, lt))
      first-in x xs (y ∷ ys) (suc n) e lt = inl (cc e)
taken-served rules (Abort region index ∷ past) h t r i =
    let waits = aborted-waits rules past h.1 region index h.0 in
    let none : is_waiting (fate_of (Abort region index ∷ past) region index) ≡ false = rw (eq-eqb region region refl, eq-eqb index index refl) refl in
    let one = one-taken (Abort region index) past region index r i waits none (taken-served rules past h.1 t.1 r i) in
    let more = sum_by-cons (λ (p : Place). one_if (p.region == r && p.index == i)) (place_at region index) (taken_places past) in
    omega (arith, one, more)
taken-served rules (e ∷ past) h t r i = none-taken e past r i (taken-served rules past h.1 t.1 r i)

-- ---- events by their kind
-- an event that opens or closes a queue, begins a deletion or changes the settings
abbrev pub is_change : Event → Bool
is_change (SetArbitration settings) = true
is_change (OpenSq qid region cqid class) = true
is_change (OpenCq qid region) = true
is_change (Closing qid region) = true
is_change (ClosedCq qid region) = true
is_change e = false

abbrev pub changes : List Event → ℕ
changes [] = 0
changes (e ∷ past) = one_if (is_change e) + changes past

abbrev pub ends : Past → ℕ
ends [] = 0
ends (ClosedSq qid region ∷ past) = ends past + 1
ends (e ∷ past) = ends past

-- all events of a log
all-events : (past : Past) → Each TakesSome past
    → length past ≡ length (fetched_places past) + length (posted_places past) + length (taken_places past) + changes past + ends past
all-events [] t = refl
all-events (event.Pick seen pick ∷ past) t =
    let are = ap length (first-is past pick t.0) in
    let rest = all-events past t.1 in
    omega (arith, are, rest)
all-events (Fetch r i entry ∷ past) t = let rest = all-events past t.1 in omega (arith, rest)
all-events (Post c r i cqe ∷ past) t = let rest = all-events past t.1 in omega (arith, rest)
all-events (Abort r i ∷ past) t = let rest = all-events past t.1 in omega (arith, rest)
all-events (ClosedSq q r ∷ past) t = let rest = all-events past t.1 in omega (arith, rest)
all-events (SetArbitration settings ∷ past) t = let rest = all-events past t.1 in omega (arith, rest)
all-events (OpenSq qid region cqid class ∷ past) t = let rest = all-events past t.1 in omega (arith, rest)
all-events (OpenCq qid region ∷ past) t = let rest = all-events past t.1 in omega (arith, rest)
all-events (Closing qid region ∷ past) t = let rest = all-events past t.1 in omega (arith, rest)
all-events (ClosedCq qid region ∷ past) t = let rest = all-events past t.1 in omega (arith, rest)

-- picks and aborts are together as many as places were taken
pub picks-few : (past : Past) → Each TakesSome past → picks_in past ≤ length (taken_places past)
picks-few [] t = omega arith
picks-few (event.Pick seen pick ∷ past) t = let are = ap length (first-is past pick t.0) in let rest = picks-few past t.1 in omega (arith, are, rest)
picks-few (Abort r i ∷ past) t = let rest = picks-few past t.1 in omega (arith, rest)
picks-few (e ∷ past) t = picks-few past t.1

-- ---- one change for each pick
aborts-change_none : (r : ℕ) (is : List ℕ) → changes (map (λ (i : ℕ). Abort r i) is) ≡ 0
aborts-change_none r [] = refl
aborts-change_none r (i ∷ is) = omega (arith, aborts-change_none r is)

made-few : (past : Past) (v : Verdict) → changes (made_by past v) ≤ 1
made-few past (Done status dw0) = omega arith
made-few past (verdict.OpenSq q r c k) = omega arith
made-few past (verdict.OpenCq q r) = omega arith
made-few past (verdict.SetArbitration settings) = omega arith
made-few past (BeginDelete q) = by (open_sq past q) where
  by : (o : Option Queue) → changes (closing_of past q o) ≤ 1
  by None = omega arith
  by (Some queue) = omega (arith, aborts-change_none queue.region (waiting past queue.region))
made-few past (CloseCq q) = by (open_cq past q) where
  by : (o : Option ℕ) → changes (closed_cq_of q o) ≤ 1
  by None = omega arith
  by (Some r) = omega arith
made-few past (verdict.Abort s c) =
    let it = makes_aborts past s c in
    omega (arith, ap changes it.are, aborts-change_none it.region it.indices)

last-few : (rules : FrontRules) (past : Past) (seen : List Seen) (pick : Pick) → changes (made_last rules (event.Pick seen pick ∷ past)) ≤ 1
last-few rules past seen pick = by (pick.qid == 0) (admin_entry past) where
  by : (b : Bool) (o : Option Sqe) → changes (if b then made_of rules past o else []) ≤ 1
  by false o = omega arith
  by true None = omega arith
  by true (Some entry) = made-few past (verdict_of rules.start (table_history rules past) entry)

-- nothing is left where all effects are there
pub left-none : (xs rest made : List Event) → xs ≡ made → xs ++ rest ≡ made → rest ≡ []
left-none xs [] made e f = refl
left-none xs (y ∷ rest) made e f = absurd (omega (arith, length-append xs (y ∷ rest), ap length e, ap length f))

-- with what the latest command still makes there is no more than one change for each pick
module _ (rules : FrontRules) where
  abbrev pub AreFew : Past → Type 0
  AreFew past = (rest : List Event) → effects_since past ++ rest ≡ made_last rules past → changes past + changes rest ≤ picks_in past

  -- an event that makes none comes when all are there
  others-few : (past : Past) → AreFew past → effects_since past ≡ made_last rules past → (rest : List Event) → effects_since past ++ rest ≡ made_last rules past
      → (0 + changes past) + changes rest ≤ picks_in past
  others-few past h all rest e =
      let before = h [] (append-nil (effects_since past) ∙ all) in
      omega (arith, before, ap changes (left-none (effects_since past) rest (made_last rules past) all e))

  -- an effect more leaves less
  effects-few : (past : Past) (e : Event) → AreFew past → (rest : List Event) → (effects_since past ++ e ∷ []) ++ rest ≡ made_last rules past
      → (one_if (is_change e) + changes past) + changes rest ≤ picks_in past
  effects-few past e h rest is =
      let before = h (e ∷ rest) (sym (append_assoc (effects_since past) (e ∷ []) rest) ∙ is) in
      omega (arith, before)

  pub changes-few : (past : Past) → Each (EffectsAtOnce rules) past → AreFew past
  changes-few [] h rest e = omega (arith, ap changes e)
  changes-few (event.Pick seen pick ∷ past) h rest e =
      let before = changes-few past h.1 [] (append-nil (effects_since past) ∙ h.0) in
      omega (arith, before, ap changes e, last-few rules past seen pick)
  changes-few (Fetch region index entry ∷ past) h rest e = others-few past (changes-few past h.1) h.0 rest e
  changes-few (Post c r i cqe ∷ past) h rest e = others-few past (changes-few past h.1) h.0 rest e
  changes-few (ClosedSq qid region ∷ past) h rest e = others-few past (changes-few past h.1) h.0 rest e
  changes-few (SetArbitration settings ∷ past) h rest e = effects-few past (SetArbitration settings) (changes-few past h.1) rest e
  changes-few (OpenSq qid region cqid class ∷ past) h rest e = effects-few past (OpenSq qid region cqid class) (changes-few past h.1) rest e
  changes-few (OpenCq qid region ∷ past) h rest e = effects-few past (OpenCq qid region) (changes-few past h.1) rest e
  changes-few (Closing qid region ∷ past) h rest e = effects-few past (Closing qid region) (changes-few past h.1) rest e
  changes-few (Abort region index ∷ past) h rest e = effects-few past (Abort region index) (changes-few past h.1) rest e
  changes-few (ClosedCq qid region ∷ past) h rest e = effects-few past (ClosedCq qid region) (changes-few past h.1) rest e

-- ---- one end for each deletion that began
ends-few : (past : Past) → Each Deletes past → ends past + one_if (is_some (pending past)) ≤ changes past
ends-few [] h = omega arith
ends-few (ClosedSq qid region ∷ past) h =
    let before = ends-few past h.1 in
    let one : one_if (is_some (pending past)) ≡ 1 = ap (λ (o : Option Deletion). one_if (is_some o)) h.0.0 in
    omega (arith, before, one)
ends-few (Closing qid region ∷ past) h = let before = ends-few past h.1 in omega (arith, before)
ends-few (SetArbitration settings ∷ past) h = let before = ends-few past h.1 in omega (arith, before)
ends-few (OpenSq qid region cqid class ∷ past) h = let before = ends-few past h.1 in omega (arith, before)
ends-few (OpenCq qid region ∷ past) h = let before = ends-few past h.1 in omega (arith, before)
ends-few (ClosedCq qid region ∷ past) h = let before = ends-few past h.1 in omega (arith, before)
ends-few (e ∷ past) h = let before = ends-few past h.1 in omega (arith, before)

-- ---- what was fetched is what was submitted first
-- nothing was fetched from the other regions
abbrev FetchedBelow : ℕ → Past → Type 0
FetchedBelow n past = (r : ℕ) → n ≤ r → length (fetched past r) ≡ 0

earlier-below : (n : ℕ) (e : Event) (past : Past) → FetchedBelow n (e ∷ past) → FetchedBelow n past
earlier-below n e past h r le =
    let more = fetched-after (e ∷ []) past r in
    omega (arith, h r le, ap length more.1, length-append (fetched past r) more.0)

fetches-add : (n : ℕ) (past : Past) → FetchedBelow n past → length (fetched_places past) ≡ sum_by (λ (r : ℕ). length (fetched past r)) (upto n)
fetches-add n [] h = sym (nothing n) where
  nothing : (n : ℕ) → sum_by (λ (r : ℕ). 0) (upto n) ≡ 0
  nothing zero = refl
  nothing (suc n) = omega (arith, sum_by-append (λ (r : ℕ). 0) (upto n) (n ∷ []), nothing n)
fetches-add n (Fetch region index entry ∷ past) h =
    let before = fetches-add n past (earlier-below n (Fetch region index entry) past h) in
    let one : length (fetched (Fetch region index entry ∷ past) region) ≡ length (fetched past region) + 1 = ap length (fetched-fetch past region index entry) ∙ length_push (fetched past region) entry in
    elim (cases_lt region n) [
      | inl lt ↦
          let more = sums_differ (λ (r : ℕ). length (fetched past r)) (λ (r : ℕ). length (fetched (Fetch region index entry ∷ past) r)) region 1 (λ r. by r (region == r)) n lt in
          omega (arith, before, more)
      | inr le ↦ absurd (omega (arith, one, h region le))
    ] where
      by : (r : ℕ) (b : Bool) → length (if b then fetched past r ++ entry ∷ [] else fetched past r) ≡ length (fetched past r) + (if b then 1 else 0)
      by r true = length_push (fetched past r) entry
      by r false = omega arith
fetches-add n (e ∷ past) h = fetches-add n past (λ r le. h r le)

-- what is nowhere more has no larger sum
pub sums-less : (f g : ℕ → ℕ) → ((r : ℕ) → f r ≤ g r) → (xs : List ℕ) → sum_by f xs ≤ sum_by g xs
sums-less f g h [] = omega arith
sums-less f g h (x ∷ xs) = omega (arith, h x, sums-less f g h xs, sum_by-cons f x xs, sum_by-cons g x xs)

-- ---- the length of a log
pub served-few : (past : Past) (r i : ℕ) → one_if (is_served past r i) ≤ one_if (nat_lt i (length (fetched past r)))
served-few past r i = by (nat_lt i (length (fetched past r))) (not (is_waiting (fate_of past r i))) where
  by : (a b : Bool) → one_if (a && b) ≤ one_if a
  by true true = omega arith
  by true false = omega arith
  by false b = omega arith

posts-few : (rules : FrontRules) (executor : Executor) (past : Past) → Each (PostsOwnBy rules executor) past → (r i : ℕ) → posts_of past r i ≤ one_if (nat_lt i (length (fetched past r)))
posts-few rules executor past h r i = elim (cases_Bool (is_posted past r i)) [
  | inl is ↦
      let one : one_if (nat_lt i (length (fetched past r))) ≡ 1 = ap one_if (lt-ltb i (length (fetched past r)) (posted-below rules executor past h r i is)) in
      omega (arith, one, one_post rules executor past h r i)
  | inr isnt ↦ omega (arith, posts_of-none past r i isnt)
]

pub logs_are_short_by : (rules : FrontRules) (executor : Executor) (sent : ℕ → List Sqe) (past : Past) (collected : ℕ → List Cqe)
    → IsAccountBy rules executor sent past collected → (n : ℕ) → ((r : ℕ) → n ≤ r → sent r ≡ []) → length past ≤ events_each * sent_below sent n
logs_are_short_by rules executor sent past collected h n others =
    let takes = each-takes rules past h.served_while_open h.observed h.lawful in
    let taken = fewer (taken_places past) (fetched_places past)
    (λ r i. let a = taken-served rules past h.effects_at_once takes r i in omega (arith, a, served-few past r i, fetched-times past h.indexes_count r i)) in
    let posted = fewer (posted_places past) (fetched_places past)
    (λ r i. let a = posts-few rules executor past h.posts_own r i in omega (arith, a, posted-times past r i, fetched-times past h.indexes_count r i)) in
    let changed = changes-few rules past h.effects_at_once [] (append-nil (effects_since past) ∙ h.effects_whole) in
    let ended = ends-few past h.deletes in
    let below : FetchedBelow n past = λ r le.
    let p = h.fetched_in_order r in omega (arith, ap length p.1, length-append (fetched past r) p.0, ap length (others r le)) in
    let less = sums-less (λ (r : ℕ). length (fetched past r)) (λ (r : ℕ). length (sent r))
    (λ r. let p = h.fetched_in_order r in omega (arith, ap length p.1, length-append (fetched past r) p.0)) (upto n) in
    omega (arith, all-events past takes, taken, posted, changed, ended, picks-few past takes, fetches-add n past below, less)

pub logs_are_short : LogsAreShort
logs_are_short rules = logs_are_short_by rules (by_outcome rules)
