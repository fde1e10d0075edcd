-- Each place is picked once or aborted, and its completion comes afterwards.
use Rattle.std.proofs.Common.{◌≡◌, ℕ, zero, suc, ◌+◌, ◌<◌, ◌==◌, ◌&&◌, ◌||◌, Bool, true, false, List, [], ◌∷◌, ◌++◌, length, take, drop, Option, Some, None, refl, sym, ap, ◌∙◌, subst, arith, append_assoc, ◌⊎◌, inl, inr}
use Rattle.std.specs.Prelude.{slice_get}
use Rattle.std.proofs.lemmas.Bool.{eqb-true, eqb-false, eq-eqb, cases_Bool, cases_lt, or_parts, and_parts, false_from_ne_true}
use Rattle.std.proofs.lemmas.Option.{slice_get_within}
use Rattle.std.proofs.lemmas.List.{length_push}
use Rattle.nvme_entry.specs.declared.submission.Sqe.{Sqe}
use Rattle.nvme_entry.specs.declared.completion.Cqe.{Cqe}
use Rattle.nvme_arbiter.specs.declared.pick.Seen.{Seen}
use Rattle.nvme_arbiter.specs.declared.pick.Pick.{Pick}
use Rattle.nvme_arbiter.specs.Lawful.{IsLawfulRun}
use Rattle.nvme_log.specs.declared.event.Event.{Event}
use Rattle.nvme_log.specs.declared.event.Event.TheVariants.{Fetch, SetArbitration, Abort, Post}
use Rattle.nvme_log.specs.declared.event.Event.TheVariants as event
use Rattle.nvme_log.specs.Rules.{Past, FrontRules, Each}
use Rattle.nvme_log.specs.Queues.{Queue, open_sq, has_region}
use Rattle.nvme_log.specs.Places.{fetched, waiting, fate_of, is_waiting, is_aborted}
use Rattle.nvme_log.specs.Histories.{arbitration_of}
use Rattle.nvme_log.specs.Effects.{EffectsAtOnce}
use Rattle.nvme_log.specs.Answers.{Executor, by_outcome}
use Rattle.nvme_log.specs.Account.{Observed, PostsOwnBy, IsAccountBy}
use Rattle.nvme_log.specs.Laws.{PicksPlace, HasPick, PickedOnce, AbortedUnpicked, CompletedAfter, PromisesServeOnce}
use Rattle.nvme_log.specs.AnswerLaws.{PromisesServeOnceBy}
use Rattle.nvme_log.proofs.LoadedPlaces.{aborted-waits, are-counted, is-fresh, cut-at}
use Rattle.nvme_log.proofs.Members.{IsIn, in-take, in-append_right, LiesLater}
use Rattle.nvme_log.proofs.Prefixes.{Each-after, accounted_by}
use Rattle.nvme_log.proofs.Turns.{waits-in, in-waits, stays_on, taken-waits_not}
use Rattle.nvme_log.proofs.Waiting.{fetched-fetch, fetched-fetch_other, waiting-fetch, waiting-pick, waiting-abort_at, waiting-abort_other, fate_of-same, picked-pick_other}

-- ---- the first elements of a list
-- an element among the first n has a position below n
in-take_at : {T : Type 0} (x : T) (k n : ℕ) (xs : List T) → slice_get xs k ≡ Some x → k < n → IsIn x (take n xs)
in-take_at x k zero xs h lt = absurd (omega (arith, lt))
in-take_at x k (suc n) [] h lt = cc h
in-take_at x zero (suc n) (y ∷ xs) h lt = inl (cc h)
in-take_at x (suc k) (suc n) (y ∷ xs) h lt = inr (in-take_at x k n xs h (omega (arith, lt)))

record Position {T : Type 0} (x : T) (n : ℕ) (xs : List T) : Type 0 where
  pub at : ℕ
  pub below : at < n
  pub is : slice_get xs at ≡ Some x

position-of : {T : Type 0} (x : T) (n : ℕ) (xs : List T) → IsIn x (take n xs) → Position x n xs
position-of x zero xs h = absurd h
position-of x (suc n) [] h = absurd h
position-of x (suc n) (y ∷ xs) (inl e) = record { at = 0; below = omega arith; is = ap Some e }
position-of x (suc n) (y ∷ xs) (inr h) = let it = position-of x n xs h in record { at = suc it.at; below = omega (arith, it.below); is = it.is }

-- an element is among the first n or among the others
first-or_other : {T : Type 0} (x : T) (n : ℕ) (xs : List T) → IsIn x xs → IsIn x (take n xs) ⊎ IsIn x (drop n xs)
first-or_other x zero xs h = inr h
first-or_other x (suc n) [] h = absurd h
first-or_other x (suc n) (y ∷ xs) (inl e) = inl (inl e)
first-or_other x (suc n) (y ∷ xs) (inr h) = elim (first-or_other x n xs h) [
  | inl first ↦ inl (inr first)
  | inr other ↦ inr other
]

-- an element stays in its list where another is taken out
stays-in : (x y : ℕ) (xs ys : List ℕ) → (y ≡ x → ⊥) → IsIn x (xs ++ y ∷ ys) → IsIn x (xs ++ ys)
stays-in x y [] ys other (inl e) = absurd (other e)
stays-in x y [] ys other (inr h) = h
stays-in x y (z ∷ xs) ys other (inl e) = inl e
stays-in x y (z ∷ xs) ys other (inr h) = inr (stays-in x y xs ys other h)

-- ---- a pick takes places that wait
-- of the queue that it names
own-region : (past : Past) (pick : Pick) (r i : ℕ) → PicksPlace past pick r i → has_region r (open_sq past pick.qid) ≡ true
own-region past pick r i t = rw t.is_open (eq-eqb t.queue.region r t.region)

-- the place waited
picks-waiting : (past : Past) (pick : Pick) (r i : ℕ) → PicksPlace past pick r i → is_waiting (fate_of past r i) ≡ true
picks-waiting past pick r i t = (in-waits past r i (in-take i pick.n (waiting past r) (in-take_at i t.position pick.n (waiting past r) t.stands t.among))).1

-- and waits no longer
picked-waits_not : (past : Past) (seen : List Seen) (pick : Pick) (r i : ℕ) → PicksPlace past pick r i → is_waiting (fate_of (event.Pick seen pick ∷ past) r i) ≡ false
picked-waits_not past seen pick r i t =
    taken-waits_not past seen pick r i (own-region past pick r i t) (in-take_at i t.position pick.n (waiting past r) t.stands t.among)

-- a place that waits isn't aborted
waiting-unaborted : (past : Past) (r i : ℕ) → is_waiting (fate_of past r i) ≡ true → is_aborted past r i ≡ false
waiting-unaborted past r i w = false_from_ne_true (is_aborted past r i) (λ a. let none : is_waiting (fate_of past r i) ≡ false = rw a refl in cc)

-- a place that was picked never waits again
pub pick-waits_not : (past : Past) (r i : ℕ) → HasPick past r i → is_waiting (fate_of past r i) ≡ false
pick-waits_not past r i p =
    subst (λ (z : Past). is_waiting (fate_of z r i) ≡ false) (sym p.stands)
    (stays_on p.later (event.Pick p.seen p.pick ∷ p.before) r i (picked-waits_not p.before p.seen p.pick r i p.takes))

-- a queue that has a region
record OpenQueue (r : ℕ) (o : Option Queue) : Type 0 where
  pub queue : Queue
  pub is_open : o ≡ Some queue
  pub region : queue.region ≡ r

queue-of : (r : ℕ) (o : Option Queue) → has_region r o ≡ true → OpenQueue r o
queue-of r None h = cc h
queue-of r (Some queue) h = record { queue = queue; is_open = refl; region = eqb-true queue.region r h }

-- so no place is picked twice, in any log
pub picked_once : (past : Past) → PickedOnce past
picked_once past later middle before seen others pick first r i is one two =
    let now : Past = middle ++ event.Pick others first ∷ before in
    let none : is_waiting (fate_of now r i) ≡ false = stays_on middle (event.Pick others first ∷ before) r i (picked-waits_not before others first r i one) in
    let waits : is_waiting (fate_of now r i) ≡ true = picks-waiting now pick r i two in
    cc

module _ (rules : FrontRules) where
  -- ---- what was picked isn't aborted
  -- a place that neither waits nor is aborted isn't aborted later
  unaborted-later : (later past : Past) (r i : ℕ) → Each (EffectsAtOnce rules) (later ++ past) → is_waiting (fate_of past r i) ≡ false → is_aborted past r i ≡ false
      → is_aborted (later ++ past) r i ≡ false
  unaborted-later [] past r i h w a = a
  unaborted-later (Abort region index ∷ later) past r i h w a =
      let other : (region == r && index == i) ≡ false = false_from_ne_true (region == r && index == i) (λ here.
      let same = and_parts (region == r) (index == i) here in
      let waits : is_waiting (fate_of (later ++ past) region index) ≡ true = (in-waits (later ++ past) region index (aborted-waits rules (later ++ past) h.1 region index h.0)).1 in
      let at : is_waiting (fate_of (later ++ past) r index) ≡ true = subst (λ (z : ℕ). is_waiting (fate_of (later ++ past) z index) ≡ true) (eqb-true region r same.0) waits in
      let too : is_waiting (fate_of (later ++ past) r i) ≡ true = subst (λ (z : ℕ). is_waiting (fate_of (later ++ past) r z) ≡ true) (eqb-true index i same.1) at in
      let none : is_waiting (fate_of (later ++ past) r i) ≡ false = stays_on later past r i w in
      cc) in
      rw other (unaborted-later later past r i h.1 w a)
  unaborted-later (e ∷ later) past r i h w a = unaborted-later later past r i h.1 w a

  pub aborted_unpicked : (past : Past) → Each (EffectsAtOnce rules) past → AbortedUnpicked past
  aborted_unpicked past h r i a p =
      let turn : Past = event.Pick p.seen p.pick ∷ p.before in
      let none : is_aborted (p.later ++ turn) r i ≡ false =
      unaborted-later p.later turn r i (subst (Each (EffectsAtOnce rules)) p.stands h)
      (picked-waits_not p.before p.seen p.pick r i p.takes) (waiting-unaborted p.before r i (picks-waiting p.before p.pick r i p.takes)) in
      let yes : is_aborted (p.later ++ turn) r i ≡ true = ap (λ (z : Past). is_aborted z r i) (sym p.stands) ∙ a in
      cc

  -- ---- what neither waits nor is aborted was picked
  -- it was picked one event later too
  pick-later : (e : Event) (past : Past) (r i : ℕ) → HasPick past r i → HasPick (e ∷ past) r i
  pick-later e past r i h = record {
    later = e ∷ h.later;
    before = h.before;
    seen = h.seen;
    pick = h.pick;
    stands = ap (λ (z : Past). e ∷ z) h.stands;
    takes = h.takes;
  }

  -- a fetched place waits
  fetch-waits : (past : Past) (r index : ℕ) (entry : Sqe) → Each (EffectsAtOnce rules) past → Each Observed past
      → IsLawfulRun rules.mechanism rules.start.settings (arbitration_of past) → is_waiting (fate_of (Fetch r index entry ∷ past) r (length (fetched past r))) ≡ true
  fetch-waits past r index entry h o l =
      let counted = are-counted rules past h o l r in
      let n : ℕ = length (fetched past r) in
      let e = waiting-fetch past r index entry (is-fresh past r counted) counted.few_picked in
      (in-waits (Fetch r index entry ∷ past) r n (subst (IsIn n) (sym e) (in-append_right n (waiting past r) (n ∷ []) (inl refl)))).1

  -- a pick of the place's queue took it where it doesn't wait any longer
  pick-takes : (past : Past) (seen : List Seen) (pick : Pick) (r i : ℕ) → i < length (fetched past r) → is_waiting (fate_of past r i) ≡ true
      → is_waiting (fate_of (event.Pick seen pick ∷ past) r i) ≡ false → HasPick (event.Pick seen pick ∷ past) r i
  pick-takes past seen pick r i lt w none = elim (cases_Bool (has_region r (open_sq past pick.qid))) [
    | inl own ↦ took own (first-or_other i pick.n (waiting past r) (waits-in past r i lt w))
    | inr other ↦ absurd (let same : is_waiting (fate_of (event.Pick seen pick ∷ past) r i) ≡ is_waiting (fate_of past r i) =
        ap is_waiting (fate_of-same past (event.Pick seen pick ∷ past) r (picked-pick_other past seen pick r other) (λ j. refl) i) in cc)
  ] where
    took : has_region r (open_sq past pick.qid) ≡ true → IsIn i (take pick.n (waiting past r)) ⊎ IsIn i (drop pick.n (waiting past r)) → HasPick (event.Pick seen pick ∷ past) r i
    took own (inr other) =
        let waits = (in-waits (event.Pick seen pick ∷ past) r i (subst (IsIn i) (sym (waiting-pick past seen pick r own)) other)).1 in
        absurd (let yes : is_waiting (fate_of (event.Pick seen pick ∷ past) r i) ≡ true = waits in cc)
    took own (inl first) =
        let queue = queue-of r (open_sq past pick.qid) own in
        let it = position-of i pick.n (waiting past r) first in
        record {
          later = [];
          before = past;
          seen = seen;
          pick = pick;
          stands = refl;
          takes = record { queue = queue.queue; is_open = queue.is_open; region = queue.region; position = it.at; among = it.below; stands = it.is };
        }

  -- an abort leaves the other places that wait
  abort-leaves : (past : Past) (region index r i : ℕ) → Each (EffectsAtOnce rules) (Abort region index ∷ past) → (region == r && index == i) ≡ false
      → i < length (fetched past r) → is_waiting (fate_of past r i) ≡ true → is_waiting (fate_of (Abort region index ∷ past) r i) ≡ true
  abort-leaves past region index r i h other lt w = elim (cases_Bool (region == r)) [
    | inl same ↦
        let is : region ≡ r = eqb-true region r same in
        let gone : IsIn index (waiting past r) = subst (λ (z : ℕ). IsIn index (waiting past z)) is (aborted-waits rules past h.1 region index h.0) in
        let cut = cut-at index (waiting past r) gone in
        let left : waiting (Abort r index ∷ past) r ≡ cut.before ++ cut.behind = waiting-abort_at past r index cut.before cut.behind cut.is in
        let apart : index ≡ i → ⊥ = λ e. let yes : (region == r && index == i) ≡ true = rw (same, eq-eqb index i e) refl in cc in
        let still = stays-in i index cut.before cut.behind apart (subst (IsIn i) cut.is (waits-in past r i lt w)) in
        let after : IsIn i (waiting (Abort r index ∷ past) r) = subst (IsIn i) (sym left) still in
        subst (λ (z : ℕ). is_waiting (fate_of (Abort z index ∷ past) r i) ≡ true) (sym is) (in-waits (Abort r index ∷ past) r i after).1
    | inr apart ↦
        (in-waits (Abort region index ∷ past) r i
        (subst (IsIn i) (sym (waiting-abort_other past region index r (eqb-false region r apart))) (waits-in past r i lt w))).1
  ]

  served-picked : (past : Past) → Each (EffectsAtOnce rules) past → Each Observed past → IsLawfulRun rules.mechanism rules.start.settings (arbitration_of past)
      → (r i : ℕ) → i < length (fetched past r) → is_aborted past r i ≡ false → is_waiting (fate_of past r i) ≡ false → HasPick past r i
  served-picked [] h o l r i lt a w = absurd (omega (arith, lt))
  served-picked (Fetch region index entry ∷ past) h o l r i lt a w = elim (cases_lt i (length (fetched past r))) [
    | inl below ↦ pick-later (Fetch region index entry) past r i (served-picked past h.1 o.1 l r i below a w)
    | inr from ↦ elim (cases_Bool (region == r)) [
      | inl e ↦
          let is : region ≡ r = eqb-true region r e in
          let more : length (fetched (Fetch r index entry ∷ past) r) ≡ length (fetched past r) + 1 = ap length (fetched-fetch past r index entry) ∙ length_push (fetched past r) entry in
          let within : i < length (fetched (Fetch r index entry ∷ past) r) = subst (λ (z : ℕ). i < length (fetched (Fetch z index entry ∷ past) r)) is lt in
          let last : length (fetched past r) ≡ i = omega (arith, more, within, from) in
          let waits : is_waiting (fate_of past r i) ≡ true = subst (λ (z : ℕ). is_waiting (fate_of past r z) ≡ true) last (fetch-waits past r index entry h.1 o.1 l) in
          absurd (let none : is_waiting (fate_of past r i) ≡ false = w in cc)
      | inr e ↦ absurd (let same = ap length (fetched-fetch_other past region index entry r (eqb-false region r e)) in omega (arith, lt, from, same))
    ]
  ]
  served-picked (event.Pick seen pick ∷ past) h o l r i lt a w = elim (cases_Bool (is_waiting (fate_of past r i))) [
    | inl waits ↦ pick-takes past seen pick r i lt waits w
    | inr none ↦ pick-later (event.Pick seen pick) past r i (served-picked past h.1 o.1 l.2 r i lt a none)
  ]
  served-picked (Abort region index ∷ past) h o l r i lt a w =
      let both = or_parts (region == r && index == i) (is_aborted past r i) a in
      elim (cases_Bool (is_waiting (fate_of past r i))) [
        | inl waits ↦ absurd (let yes = abort-leaves past region index r i h both.0 lt waits in cc)
        | inr none ↦ pick-later (Abort region index) past r i (served-picked past h.1 o.1 l r i lt both.1 none)
      ]
  served-picked (SetArbitration settings ∷ past) h o l r i lt a w = pick-later (SetArbitration settings) past r i (served-picked past h.1 o.1 l r i lt a w)
  served-picked (e ∷ past) h o l r i lt a w = pick-later e past r i (served-picked past h.1 o.1 l r i lt a w)

  -- ---- completions come afterwards
  pub completed_after : (executor : Executor) (sent : ℕ → List Sqe) (past : Past) (collected : ℕ → List Cqe) → IsAccountBy rules executor sent past collected → CompletedAfter past
  completed_after executor sent past collected h later before c r i cqe is =
      let split : past ≡ (later ++ Post c r i cqe ∷ []) ++ before = is ∙ sym (append_assoc later (Post c r i cqe ∷ []) before) in
      let so_far = accounted_by rules executor sent (later ++ Post c r i cqe ∷ []) before collected (subst (λ (z : Past). IsAccountBy rules executor sent z collected) split h) in
      let own : PostsOwnBy rules executor before (Post c r i cqe) = (Each-after (PostsOwnBy rules executor) later (Post c r i cqe ∷ before) (subst (Each (PostsOwnBy rules executor)) is h.posts_own)).0 in
      elim (cases_Bool (is_aborted before r i)) [
        | inl aborted ↦ inr aborted
        | inr unaborted ↦ inl (served-picked before so_far.effects_at_once so_far.observed so_far.lawful r i
            (slice_get_within (fetched before r) i own.2.entry own.2.is_there) unaborted own.1)
      ]

-- ---- what the promise says of each command
-- two cuts of one list: the first lies later in it, what comes behind them is the same, or the second does
two-cuts : (xs ys us vs : Past) (a b : Event) → xs ++ a ∷ ys ≡ us ++ b ∷ vs → LiesLater xs us b vs ys a ⊎ ((ys ≡ vs) ⊎ LiesLater us xs a ys vs b)
two-cuts [] ys [] vs a b h = inr (inl (cc h))
two-cuts [] ys (u ∷ us) vs a b h = inr (inr (record { between = us; left = ap (λ z. z ∷ us) (cc h); right = cc h }))
two-cuts (x ∷ xs) ys [] vs a b h = inl (record { between = xs; left = ap (λ z. z ∷ xs) (cc h); right = cc h })
two-cuts (x ∷ xs) ys (u ∷ us) vs a b h =
    let same : x ≡ u = cc h in
    elim (two-cuts xs ys us vs a b (cc h)) [
      | inl it ↦ inl (record { between = it.between; left = (λ i. same i ∷ it.left i); right = it.right })
      | inr (inl e) ↦ inr (inl e)
      | inr (inr it) ↦ inr (inr (record { between = it.between; left = (λ i. sym same i ∷ it.left i); right = it.right }))
    ]

-- of two picks of one place neither comes before the other
not-before : (past : Past) → PickedOnce past → (r i : ℕ) (p q : HasPick past r i) → LiesLater p.later q.later (event.Pick q.seen q.pick) q.before p.before (event.Pick p.seen p.pick) → ⊥
not-before past once r i p q it =
    once q.later it.between p.before q.seen p.seen q.pick p.pick r i
    (q.stands ∙ ap (λ (z : Past). q.later ++ event.Pick q.seen q.pick ∷ z) it.right)
    p.takes (subst (λ (z : Past). PicksPlace z q.pick r i) it.right q.takes)

one-pick : (past : Past) → PickedOnce past → (r i : ℕ) (p q : HasPick past r i) → p.before ≡ q.before
one-pick past once r i p q = elim (two-cuts p.later p.before q.later q.before (event.Pick p.seen p.pick) (event.Pick q.seen q.pick) (sym p.stands ∙ q.stands)) [
  | inl it ↦ absurd (not-before past once r i p q it)
  | inr (inl same) ↦ same
  | inr (inr it) ↦ absurd (not-before past once r i q p it)
]

-- what was picked or aborted was so later
pick-on : (later before : Past) (r i : ℕ) → HasPick before r i → HasPick (later ++ before) r i
pick-on later before r i h = record {
  later = later ++ h.later;
  before = h.before;
  seen = h.seen;
  pick = h.pick;
  stands = ap (λ (z : Past). later ++ z) h.stands ∙ sym (append_assoc later h.later (event.Pick h.seen h.pick ∷ h.before));
  takes = h.takes;
}

aborted-on : (later before : Past) (r i : ℕ) → is_aborted before r i ≡ true → is_aborted (later ++ before) r i ≡ true
aborted-on [] before r i h = h
aborted-on (Abort region index ∷ later) before r i h = or_so (region == r && index == i) (aborted-on later before r i h) where
  or_so : (c : Bool) → is_aborted (later ++ before) r i ≡ true → (c || is_aborted (later ++ before) r i) ≡ true
  or_so true k = refl
  or_so false k = k
aborted-on (e ∷ later) before r i h = aborted-on later before r i h

pub serve_once_by : PromisesServeOnceBy
serve_once_by rules executor sent past collected h r i lt =
    let it = h.one_completion r i lt in
    let split : past ≡ (it.later ++ Post it.region r i it.cqe ∷ []) ++ it.before = sym it.stands ∙ sym (append_assoc it.later (Post it.region r i it.cqe ∷ []) it.before) in
    record {
      served = elim (h.completed_after it.later it.before it.region r i it.cqe (sym it.stands)) [
        | inl pick ↦
            let on : HasPick past r i = subst (λ (z : Past). HasPick z r i) (sym split) (pick-on (it.later ++ Post it.region r i it.cqe ∷ []) it.before r i pick) in
            inl (on, false_from_ne_true (is_aborted past r i) (λ a. h.aborted_unpicked r i a on))
        | inr aborted ↦
            let on : is_aborted past r i ≡ true = subst (λ (z : Past). is_aborted z r i ≡ true) (sym split) (aborted-on (it.later ++ Post it.region r i it.cqe ∷ []) it.before r i aborted) in
            inr (on, h.aborted_unpicked r i on)
      ];
      one_pick = one-pick past h.picked_once r i;
      answered_after = λ later before c cqe is. h.completed_after later before c r i cqe is;
    }

pub serve_once : PromisesServeOnce
serve_once rules = serve_once_by rules (by_outcome rules)
