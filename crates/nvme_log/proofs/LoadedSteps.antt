-- What comes next in a loaded log: one event, by the events before it, or the end.
use Rattle.std.proofs.Common.{◌≡◌, ℕ, zero, suc, ◌+◌, ◌<◌, ◌≤◌, ◌==◌, ◌||◌, Bool, true, false, not, if◌then◌else◌, List, [], ◌∷◌, ◌++◌, length, Option, Some, None, refl, sym, ap, ◌∙◌, subst, arith, length-append, inl, inr}
use Rattle.std.specs.Prelude.{slice_get, option_map, nat_le, unwrap_or, All, MatchOption}
use Rattle.std.specs.Option.{option_or, IsNone}
use Rattle.std.specs.List.{list_any}
use Rattle.std.proofs.lemmas.Bool.{eqb-true, leb-true, lt-leb, cases_lt, and_parts, cases_Bool}
use Rattle.std.proofs.lemmas.Option.{none-some, same_Some}
use Rattle.std.proofs.lemmas.List.Folds.{list_any-append}
use Rattle.std.proofs.lemmas.List.{length_push}
use mathlib.Core.List.{IsPrefix}
use Rattle.nvme_entry.specs.declared.submission.Sqe.{Sqe}
use Rattle.nvme_arbiter.specs.Limits.{queue_limit}
use Rattle.nvme_arbiter.specs.Lawful.{lawful_pick}
use Rattle.nvme_arbiter.specs.declared.pick.Seen.{Seen}
use Rattle.nvme_arbiter.specs.declared.pick.Pick.{Pick}
use Rattle.nvme_arbiter.proofs.PickLaws.{prefixes}
use Rattle.nvme_arbiter.proofs.RoundLaws.{idle_law}
use Rattle.nvme_log.specs.declared.event.Event.{Event}
use Rattle.nvme_log.specs.declared.event.Event.TheVariants.{Fetch, SetArbitration, OpenSq, OpenCq, Closing, Abort, Post, ClosedSq, ClosedCq}
use Rattle.nvme_log.specs.declared.event.Event.TheVariants as event
use Rattle.nvme_log.specs.Rules.{Past, FrontRules, Each, upto, window_at}
use Rattle.nvme_log.specs.Queues.{Queue, Deletion, open_sq, pending, has_region, is_open_region, qid_of_region}
use Rattle.nvme_log.specs.Places.{fetched, waiting, observation_of}
use Rattle.nvme_log.specs.Histories.{arbitration_of}
use Rattle.nvme_log.specs.Effects.{made_last, effects_since, EffectsAtOnce}
use Rattle.nvme_log.specs.Account.{ServedWhileOpen}
use Rattle.nvme_log.specs.Loaded.{is_filled, are_filled, ends_deletion, NoneWaits, LoadedSoFar, IsLoadedLog}
use Rattle.nvme_log.proofs.Members.{all-in}
use Rattle.nvme_log.proofs.Posts.{all_below, slice_get-next}
use Rattle.nvme_log.proofs.Prefixes.{fetched-after, arbitration_of-append, IsPrefix-trans}
use Rattle.nvme_log.proofs.Tables.{with_events}
use Rattle.nvme_log.proofs.Waiting.{fetched-fetch, fetched-fetch_other, waiting-fetch_other}
use Rattle.nvme_log.proofs.LoadedPlaces.{AreCounted, are-counted, fetched-waits, seen-in}
use Rattle.nvme_log.proofs.LoadedRegions.{region-owned}

-- ---- the first of some choices
-- where the first is something it is that
or-first : {T : Type 0} (a b : Option T) (x : T) → a ≡ Some x → option_or a b ≡ Some x
or-first a b x h = ap (λ z. option_or z b) h

-- where the first is nothing it is the second
or-then : {T : Type 0} (a b : Option T) → a ≡ None → option_or a b ≡ b
or-then a b h = ap (λ z. option_or z b) h

-- the first number below n that passes a test
abbrev first_below : (ℕ → Bool) → ℕ → Option ℕ
first_below t zero = None
first_below t (suc n) = option_or (first_below t n) (if t n then Some n else None)

-- there is none where none passes
none-below : (t : ℕ → Bool) (n : ℕ) → ((q : ℕ) → q < n → t q ≡ false) → first_below t n ≡ None
none-below t zero h = refl
none-below t (suc n) h =
    or-then (first_below t n) (if t n then Some n else None) (none-below t n (λ q lt. h q (omega (arith, lt))))
    ∙ ap (λ (b : Bool). if b then Some n else None) (h n (omega arith))

-- it is one that passes, where none below it does
first-below : (t : ℕ → Bool) (n q : ℕ) → q < n → t q ≡ true → ((p : ℕ) → p < q → t p ≡ false) → first_below t n ≡ Some q
first-below t zero q lt h none = absurd (omega (arith, lt))
first-below t (suc n) q lt h none = elim (cases_lt q n) [
  | inl below ↦ or-first (first_below t n) (if t n then Some n else None) q (first-below t n q below h none)
  | inr from ↦
      let same : q ≡ n = omega (arith, lt, from) in
      or-then (first_below t n) (if t n then Some n else None) (none-below t n (λ p less. none p (omega (arith, less, same))))
      ∙ ap (λ (b : Bool). if b then Some n else None) (ap t (sym same) ∙ h) ∙ ap Some (sym same)
]

-- a test that some number below n passes
some-below : (t : ℕ → Bool) (n : ℕ) → list_any t (upto n) ≡ true → (q : ℕ) × (q < n) × (t q ≡ true)
some-below t zero h = cc h
some-below t (suc n) h = by (list_any t (upto n)) (t n) refl refl (sym (list_any-append t (upto n) (n ∷ [])) ∙ h) (some-below t n) where
  by : (a b : Bool) → list_any t (upto n) ≡ a → t n ≡ b → (list_any t (upto n) || list_any t (n ∷ [])) ≡ true
      → (list_any t (upto n) ≡ true → (q : ℕ) × (q < n) × (t q ≡ true)) → (q : ℕ) × (q < suc n) × (t q ≡ true)
  by true b e f k rest = let it = rest e in (it.0, omega (arith, it.1), it.2)
  by false true e f k rest = (n, omega arith, f)
  by false false e f k rest = absurd (let none : (false || (false || false)) ≡ true = rw (e, f) at k in cc none)

-- ---- the parts of a log
-- the events of a log, the oldest first
abbrev pub in_order : Past → List Event
in_order [] = []
in_order (e ∷ past) = in_order past ++ e ∷ []

-- the last of some events is the newest
with_events-push : (xs : List Event) (e : Event) (past : Past) → with_events (xs ++ e ∷ []) past ≡ e ∷ with_events xs past
with_events-push [] e past = refl
with_events-push (x ∷ xs) e past = with_events-push xs e (x ∷ past)

-- after others they make the log again
pub in_order-after : (later past : Past) → with_events (in_order later) past ≡ later ++ past
in_order-after [] past = refl
in_order-after (e ∷ later) past = with_events-push (in_order later) e past ∙ ap (λ (z : Past). e ∷ z) (in_order-after later past)

module _ (rules : FrontRules) (scripts : ℕ → List Sqe) where
  -- what a loaded log says it says of its beginning
  so_far-before : (e : Event) (past : Past) → LoadedSoFar rules scripts (e ∷ past) → LoadedSoFar rules scripts past
  so_far-before e past h = record {
    no_post = h.no_post.1;
    fetched_in_order = λ r. IsPrefix-trans (fetched past r) (fetched (e ∷ past) r) (scripts r) (fetched-after (e ∷ []) past r) (h.fetched_in_order r);
    indexes_count = h.indexes_count.1;
    served_while_open = h.served_while_open.1;
    observed = h.observed.1;
    effects_at_once = h.effects_at_once.1;
    lawful = prefixes rules.mechanism rules.start.settings (arbitration_of (e ∷ [])) (arbitration_of past) (rw (arbitration_of-append (e ∷ []) past) at h.lawful);
    filled_before = h.filled_before.1;
    fetches_last = h.fetches_last.1;
    closed_at_once = h.closed_at_once.1;
    nothing_after_closed = h.nothing_after_closed.1;
  }

  -- so it says it before any number of events
  so_far-until : (later : List Event) (past : Past) → LoadedSoFar rules scripts (with_events later past) → LoadedSoFar rules scripts past
  so_far-until [] past h = h
  so_far-until (e ∷ later) past h = so_far-before e past (so_far-until later (e ∷ past) h)

  -- ---- what comes next
  -- the next effect of the latest picked command
  abbrev next_effect : Past → Option Event
  next_effect past = slice_get (made_last rules past) (length (effects_since past))

  -- the end of a pending deletion
  abbrev next_end : Option Deletion → Option Event
  next_end None = None
  next_end (Some deletion) = Some (ClosedSq deletion.qid deletion.region)

  -- a queue isn't filled
  abbrev is_unfilled : Past → ℕ → Bool
  is_unfilled past q = not (is_filled rules scripts past (open_sq past q))

  -- the next fetch from a queue
  abbrev fetch_from : Past → Option Queue → Option Event
  fetch_from past None = None
  fetch_from past (Some queue) = option_map (λ (entry : Sqe). Fetch queue.region (length (fetched past queue.region)) entry) (slice_get (scripts queue.region) (length (fetched past queue.region)))

  -- that from a queue by its identifier, where there is one
  abbrev fetch_of : Past → Option ℕ → Option Event
  fetch_of past None = None
  fetch_of past (Some q) = fetch_from past (open_sq past q)

  -- that from the first queue that isn't filled
  abbrev next_fetch : Past → Option Event
  next_fetch past = fetch_of past (first_below (is_unfilled past) queue_limit)

  -- the lawful pick
  abbrev next_pick : Past → Option Event
  next_pick past = option_map (λ (pick : Pick). event.Pick (observation_of past) pick) (lawful_pick rules.mechanism rules.start.settings (arbitration_of past) (observation_of past))

  -- an effect that is due, else the end of a pending deletion, else a fetch, else a pick
  abbrev pub next : Past → Option Event
  next past = option_or (next_effect past) (option_or (next_end (pending past)) (option_or (next_fetch past) (next_pick past)))

  -- ---- effects
  -- an effect is the next that is made
  effect-next : (past : Past) (e : Event) → IsPrefix (effects_since past ++ e ∷ []) (made_last rules past) → next past ≡ Some e
  effect-next past e h =
      or-first (next_effect past) (option_or (next_end (pending past)) (option_or (next_fetch past) (next_pick past))) e
      (subst (λ (z : List Event). slice_get z (length (effects_since past)) ≡ Some e) h.1 (slice_get-next (effects_since past) h.0 e))

  -- a list has no element behind its last
  none-behind : {T : Type 0} (xs : List T) → slice_get xs (length xs) ≡ None
  none-behind [] = refl
  none-behind (x ∷ xs) = none-behind xs

  -- where all effects are there none is next
  no-effect : (past : Past) → effects_since past ≡ made_last rules past → next past ≡ option_or (next_end (pending past)) (option_or (next_fetch past) (next_pick past))
  no-effect past whole =
      or-then (next_effect past) (option_or (next_end (pending past)) (option_or (next_fetch past) (next_pick past)))
      (subst (λ (z : List Event). slice_get z (length (effects_since past)) ≡ None) whole (none-behind (effects_since past)))

  -- ---- the end of a deletion
  -- what ends a deletion is its own end
  end-is : (o : Option Deletion) (qid region : ℕ) → ends_deletion o (ClosedSq qid region) ≡ true → next_end o ≡ Some (ClosedSq qid region)
  end-is None qid region h = cc h
  end-is (Some deletion) qid region h =
      let parts = and_parts (qid == deletion.qid) (region == deletion.region) h in
      rw (eqb-true qid deletion.qid parts.0, eqb-true region deletion.region parts.1) refl

  -- so that is next where all effects are there
  end-next : (past : Past) (qid region : ℕ) → effects_since past ≡ made_last rules past → ends_deletion (pending past) (ClosedSq qid region) ≡ true → next past ≡ Some (ClosedSq qid region)
  end-next past qid region whole ends =
      no-effect past whole ∙ or-first (next_end (pending past)) (option_or (next_fetch past) (next_pick past)) (ClosedSq qid region) (end-is (pending past) qid region ends)

  -- no fetch comes while a deletion is pending
  not-fetched : (o : Option Deletion) (r i : ℕ) (entry : Sqe) → ends_deletion o (Fetch r i entry) ≡ true → o ≡ None
  not-fetched None r i entry h = refl
  not-fetched (Some deletion) r i entry h = cc h

  -- nor does a pick
  not-picked : (o : Option Deletion) (seen : List Seen) (pick : Pick) → ends_deletion o (event.Pick seen pick) ≡ true → o ≡ None
  not-picked None seen pick h = refl
  not-picked (Some deletion) seen pick h = cc h

  -- where no deletion is pending a fetch or a pick is next
  no-end : (past : Past) → effects_since past ≡ made_last rules past → pending past ≡ None → next past ≡ option_or (next_fetch past) (next_pick past)
  no-end past whole none = no-effect past whole ∙ or-then (next_end (pending past)) (option_or (next_fetch past) (next_pick past)) (ap next_end none)

  -- ---- fetches
  -- each queue is filled where all are
  filled-at : (past : Past) → are_filled rules scripts past ≡ true → (q : ℕ) → q < queue_limit → is_filled rules scripts past (open_sq past q) ≡ true
  filled-at past h q lt = all_below (λ (q : ℕ). is_filled rules scripts past (open_sq past q)) queue_limit h q lt

  -- then none is fetched from
  no-fetch : (past : Past) → are_filled rules scripts past ≡ true → next_fetch past ≡ None
  no-fetch past h = ap (fetch_of past) (none-below (is_unfilled past) queue_limit (λ q lt. ap not (filled-at past h q lt)))

  -- the open queue of a region
  record HasQueue (past : Past) (r : ℕ) : Type 0 where
    pub qid : ℕ
    pub within : qid < queue_limit
    pub queue : Queue
    pub is_open : open_sq past qid ≡ Some queue
    pub region : queue.region ≡ r

  -- each open region has one
  queue-of : (past : Past) (r : ℕ) → is_open_region past r ≡ true → HasQueue past r
  queue-of past r h =
      let it = some-below (λ (q : ℕ). has_region r (open_sq past q)) queue_limit h in
      by (open_sq past it.0) refl it.1 it.2 where
        by : (o : Option Queue) → open_sq past (some-below (λ (q : ℕ). has_region r (open_sq past q)) queue_limit h).0 ≡ o
            → (some-below (λ (q : ℕ). has_region r (open_sq past q)) queue_limit h).0 < queue_limit
            → has_region r o ≡ true → HasQueue past r
        by None e lt k = cc k
        by (Some queue) e lt k = record { qid = (some-below (λ (q : ℕ). has_region r (open_sq past q)) queue_limit h).0; within = lt; queue = queue; is_open = e; region = eqb-true queue.region r k }

  -- a queue that is fetched from isn't filled: its script goes on, and its window holds one more
  pub unfilled-before : (past : Past) (r i : ℕ) (entry : Sqe) → AreCounted past r → ServedWhileOpen rules past (Fetch r i entry)
      → IsPrefix (fetched (Fetch r i entry ∷ past) r) (scripts r) → (queue : Queue) → queue.region ≡ r → is_filled rules scripts past (Some queue) ≡ false
  unfilled-before past r i entry counted served whole queue same =
      subst (λ (z : ℕ). (nat_le (length (scripts z)) (length (fetched past z)) || nat_le (window_at rules z) (length (waiting past z))) ≡ false) (sym same)
      (neither (nat_le (length (scripts r)) (length (fetched past r))) (nat_le (window_at rules r) (length (waiting past r)))
      (lt-leb (length (scripts r)) (length (fetched past r)) more) (lt-leb (window_at rules r) (length (waiting past r)) room)) where
        more : length (fetched past r) < length (scripts r)
        more =
            let one : length (fetched (Fetch r i entry ∷ past) r) ≡ length (fetched past r) + 1 = ap length (fetched-fetch past r i entry) ∙ length_push (fetched past r) entry in
            omega (arith, one, ap length whole.1, length-append (fetched (Fetch r i entry ∷ past) r) whole.0)

        room : length (waiting past r) < window_at rules r
        room =
            let one = fetched-waits past r i entry counted in
            let within : length (waiting (Fetch r i entry ∷ past) r) ≤ window_at rules r = leb-true (length (waiting (Fetch r i entry ∷ past) r)) (window_at rules r) served.1 in
            omega (arith, one, within)

        neither : (a b : Bool) → a ≡ false → b ≡ false → (a || b) ≡ false
        neither a b e f = rw (e, f) refl

  -- so it is in a loaded log
  fetched-unfilled : (past : Past) (r i : ℕ) (entry : Sqe) → LoadedSoFar rules scripts (Fetch r i entry ∷ past) → (queue : Queue) → queue.region ≡ r → is_filled rules scripts past (Some queue) ≡ false
  fetched-unfilled past r i entry h queue same =
      unfilled-before past r i entry (are-counted rules past h.effects_at_once.1 h.observed.1 h.lawful r) h.served_while_open.0 (h.fetched_in_order r) queue same

  -- a fetch from another region leaves a queue as full as it was
  filled-beside : (past : Past) (r i : ℕ) (entry : Sqe) (queue : Queue) → (r ≡ queue.region → ⊥)
      → is_filled rules scripts (Fetch r i entry ∷ past) (Some queue) ≡ is_filled rules scripts past (Some queue)
  filled-beside past r i entry queue other =
      let f = fetched-fetch_other past r i entry queue.region other in
      let w = waiting-fetch_other past r i entry queue.region other in
      λ t. nat_le (length (scripts queue.region)) (length (f t)) || nat_le (window_at rules queue.region) (length (w t))

  -- so it leaves a queue of another identifier unfilled
  unfilled-beside : (past : Past) (r i : ℕ) (entry : Sqe) (p q : ℕ) → Each (EffectsAtOnce rules) past → qid_of_region past r ≡ Some q → p < q
      → is_filled rules scripts past (open_sq past p) ≡ false → is_filled rules scripts (Fetch r i entry ∷ past) (open_sq past p) ≡ false
  unfilled-beside past r i entry p q h owned less un = by (open_sq past p) refl un where
    by : (o : Option Queue) → open_sq past p ≡ o → is_filled rules scripts past o ≡ false → is_filled rules scripts (Fetch r i entry ∷ past) o ≡ false
    by None e k = cc k
    by (Some queue) e k = filled-beside past r i entry queue (λ same.
        let twice : p ≡ q = same_Some p q (sym (region-owned rules past h p queue e) ∙ ap (qid_of_region past) (sym same) ∙ owned) in
        omega (arith, twice, less)) ∙ k

  -- after a fetch no queue of a lower identifier may be unfilled: the fetches that follow go on upwards, and at the next pick or the end all are filled
  none-lower : (later : List Event) (past : Past) (r i : ℕ) (entry : Sqe) (p q : ℕ) → p < queue_limit → p < q → qid_of_region past r ≡ Some q
      → is_filled rules scripts (Fetch r i entry ∷ past) (open_sq past p) ≡ false → IsLoadedLog rules scripts (with_events later (Fetch r i entry ∷ past)) → ⊥
  none-lower [] past r i entry p q lt less owned un h = let all = filled-at (Fetch r i entry ∷ past) h.at_end.filled p lt in let e : true ≡ false = sym all ∙ un in cc e
  none-lower (event.Pick seen pick ∷ later) past r i entry p q lt less owned un h =
      let now = so_far-until later (event.Pick seen pick ∷ Fetch r i entry ∷ past) h.so_far in
      let all = filled-at (Fetch r i entry ∷ past) now.filled_before.0 p lt in
      let e : true ≡ false = sym all ∙ un in cc e
  none-lower (Fetch region index other ∷ later) past r i entry p q lt less owned un h =
      let now = so_far-until later (Fetch region index other ∷ Fetch r i entry ∷ past) h.so_far in
      let it = queue-of (Fetch r i entry ∷ past) region now.served_while_open.0.0 in
      let owns : qid_of_region (Fetch r i entry ∷ past) region ≡ Some it.qid =
      ap (qid_of_region past) (sym it.region) ∙ region-owned rules (Fetch r i entry ∷ past) now.effects_at_once.1 it.qid it.queue it.is_open in
      let above : q ≤ it.qid =
      leb-true q it.qid (subst (λ (z : Option ℕ). nat_le q (unwrap_or z 0) ≡ true) owns
      (subst (λ (z : Option ℕ). nat_le (unwrap_or z 0) (unwrap_or (qid_of_region past region) 0) ≡ true) owned now.fetches_last.0)) in
      let up : p < it.qid = omega (arith, less, above) in
      none-lower later (Fetch r i entry ∷ past) region index other p it.qid lt up owns
      (unfilled-beside (Fetch r i entry ∷ past) region index other p it.qid now.effects_at_once.1 owns up un) h
  none-lower (e ∷ later) past r i entry p q lt less owned un h = absurd (let now = so_far-until later (e ∷ Fetch r i entry ∷ past) h.so_far in cc now.fetches_last.0)

  -- a fetch is from the first queue that isn't filled
  fetch-next : (past : Past) (r i : ℕ) (entry : Sqe) (later : List Event) → IsLoadedLog rules scripts (with_events later (Fetch r i entry ∷ past)) → next_fetch past ≡ Some (Fetch r i entry)
  fetch-next past r i entry later h =
      let now = so_far-until later (Fetch r i entry ∷ past) h.so_far in
      let it = queue-of past r now.served_while_open.0.0 in
      let owned : qid_of_region past r ≡ Some it.qid = ap (qid_of_region past) (sym it.region) ∙ region-owned rules past now.effects_at_once.1 it.qid it.queue it.is_open in
      let own : is_unfilled past it.qid ≡ true = ap (λ (o : Option Queue). not (is_filled rules scripts past o)) it.is_open ∙ ap not (fetched-unfilled past r i entry now it.queue it.region) in
      let lower : (p : ℕ) → p < it.qid → is_unfilled past p ≡ false = λ p less. elim (cases_Bool (is_filled rules scripts past (open_sq past p))) [
        | inl full ↦ ap not full
        | inr un ↦ absurd (none-lower later past r i entry p it.qid (omega (arith, less, it.within)) less owned (unfilled-beside past r i entry p it.qid now.effects_at_once.1 owned less un) h)
      ] in
      let first = first-below (is_unfilled past) queue_limit it.qid it.within own lower in
      ap (fetch_of past) first ∙ ap (fetch_from past) it.is_open ∙ from-script it.queue it.region now where
        from-script : (queue : Queue) → queue.region ≡ r → LoadedSoFar rules scripts (Fetch r i entry ∷ past) → fetch_from past (Some queue) ≡ Some (Fetch r i entry)
        from-script queue same now =
            let whole = now.fetched_in_order r in
            let there : slice_get (scripts r) (length (fetched past r)) ≡ Some entry =
            subst (λ (z : List Sqe). slice_get z (length (fetched past r)) ≡ Some entry) (ap (λ (z : List Sqe). z ++ whole.0) (sym (fetched-fetch past r i entry)) ∙ whole.1)
            (slice_get-next (fetched past r) whole.0 entry) in
            subst (λ (z : ℕ). option_map (λ (x : Sqe). Fetch z (length (fetched past z)) x) (slice_get (scripts z) (length (fetched past z))) ≡ Some (Fetch r i entry)) (sym same)
            (ap (option_map (λ (x : Sqe). Fetch r (length (fetched past r)) x)) there ∙ ap (λ (z : ℕ). Some (Fetch r z entry)) (sym now.indexes_count.0))

  -- ---- picks
  -- a pick is the lawful one of what is observed
  pick-next : (past : Past) (seen : List Seen) (pick : Pick) → LoadedSoFar rules scripts (event.Pick seen pick ∷ past) → next_pick past ≡ Some (event.Pick seen pick)
  pick-next past seen pick now =
      let lawful : lawful_pick rules.mechanism rules.start.settings (arbitration_of past) (observation_of past) ≡ Some pick =
      subst (λ (z : List Seen). lawful_pick rules.mechanism rules.start.settings (arbitration_of past) z ≡ Some pick) now.observed.0 now.lawful.1 in
      ap (option_map (λ (p : Pick). event.Pick (observation_of past) p)) lawful
      ∙ ap (λ (z : List Seen). Some (event.Pick z pick)) (sym now.observed.0)

  -- nothing is picked where nothing is lawful
  none-picked : (o : Option Pick) → IsNone o → o ≡ None
  none-picked None h = refl
  none-picked (Some pick) h = cc h

  -- so it is where no open queue has a waiting place
  no-pick : (past : Past) → NoneWaits past → next_pick past ≡ None
  no-pick past h =
      let idle : All (λ (s : Seen). s.count ≡ 0) (observation_of past) = all-in (λ (s : Seen). s.count ≡ 0) (observation_of past) (λ s is.
      let it = seen-in past s is in
      let none : waiting past it.queue.region ≡ [] = subst (λ (o : Option Queue). MatchOption o (Unit {0}) (λ queue. waiting past queue.region ≡ [])) it.is_open (h s.qid) in
      it.counts ∙ ap length none) in
      ap (option_map (λ (p : Pick). event.Pick (observation_of past) p))
      (none-picked (lawful_pick rules.mechanism rules.start.settings (arbitration_of past) (observation_of past))
      ((idle_law rules.mechanism rules.start.settings (arbitration_of past) (observation_of past)).1 idle))

  -- ---- the next event
  -- it is the one that comes next in a loaded log
  pub next-is : (past : Past) (e : Event) (later : List Event) → IsLoadedLog rules scripts (with_events later (e ∷ past)) → next past ≡ Some e
  next-is past (Fetch r i entry) later h =
      let now = so_far-until later (Fetch r i entry ∷ past) h.so_far in
      no-end past now.effects_at_once.0 (not-fetched (pending past) r i entry now.closed_at_once.0)
      ∙ or-first (next_fetch past) (next_pick past) (Fetch r i entry) (fetch-next past r i entry later h)
  next-is past (event.Pick seen pick) later h =
      let now = so_far-until later (event.Pick seen pick ∷ past) h.so_far in
      no-end past now.effects_at_once.0 (not-picked (pending past) seen pick now.closed_at_once.0)
      ∙ or-then (next_fetch past) (next_pick past) (no-fetch past now.filled_before.0) ∙ pick-next past seen pick now
  next-is past (SetArbitration settings) later h = let now = so_far-until later (SetArbitration settings ∷ past) h.so_far in effect-next past (SetArbitration settings) now.effects_at_once.0
  next-is past (OpenSq qid region cqid class) later h =
      let now = so_far-until later (OpenSq qid region cqid class ∷ past) h.so_far in
      effect-next past (OpenSq qid region cqid class) now.effects_at_once.0
  next-is past (OpenCq qid region) later h = let now = so_far-until later (OpenCq qid region ∷ past) h.so_far in effect-next past (OpenCq qid region) now.effects_at_once.0
  next-is past (Closing qid region) later h = let now = so_far-until later (Closing qid region ∷ past) h.so_far in effect-next past (Closing qid region) now.effects_at_once.0
  next-is past (Abort r i) later h = let now = so_far-until later (Abort r i ∷ past) h.so_far in effect-next past (Abort r i) now.effects_at_once.0
  next-is past (ClosedCq qid region) later h = let now = so_far-until later (ClosedCq qid region ∷ past) h.so_far in effect-next past (ClosedCq qid region) now.effects_at_once.0
  next-is past (ClosedSq qid region) later h = let now = so_far-until later (ClosedSq qid region ∷ past) h.so_far in end-next past qid region now.effects_at_once.0 now.closed_at_once.0
  next-is past (Post c r i cqe) later h = absurd (let now = so_far-until later (Post c r i cqe ∷ past) h.so_far in now.no_post.0)

  -- and there is none at the end
  pub next-none : (past : Past) → IsLoadedLog rules scripts past → next past ≡ None
  next-none past h =
      no-end past h.at_end.effects_whole h.at_end.none_pending
      ∙ or-then (next_fetch past) (next_pick past) (no-fetch past h.at_end.filled) ∙ no-pick past h.at_end.none_waits

  -- so what comes after the same events is the same
  pub same-later : (one other : List Event) (past : Past) → IsLoadedLog rules scripts (with_events one past) → IsLoadedLog rules scripts (with_events other past) → one ≡ other
  same-later [] [] past h k = refl
  same-later [] (e ∷ other) past h k = absurd (none-some e (sym (next-none past h) ∙ next-is past e other k))
  same-later (e ∷ one) [] past h k = absurd (none-some e (sym (next-none past k) ∙ next-is past e one h))
  same-later (e ∷ one) (f ∷ other) past h k =
      let same : e ≡ f = same_Some e f (sym (next-is past e one h) ∙ next-is past f other k) in
      let rest = same-later one other (e ∷ past) h (subst (λ (z : Event). IsLoadedLog rules scripts (with_events other (z ∷ past))) (sym same) k) in
      (λ i. same i ∷ rest i)
