-- What a turn adds to a loaded log: events that are neither fetches nor picks, and a pick with its command's effects.
use Rattle.std.proofs.Common.{◌≡◌, ℕ, ◌≤◌, true, List, [], ◌∷◌, length, length-append, Some, refl, ap, subst, arith}
use Rattle.std.proofs.lemmas.List.{length_push}
use Rattle.nvme_entry.specs.declared.submission.Sqe.{Sqe}
use Rattle.nvme_arbiter.specs.declared.pick.Seen.{Seen}
use Rattle.nvme_arbiter.specs.declared.pick.Pick.{Pick}
use Rattle.nvme_log.specs.declared.event.Event.{Event}
use Rattle.nvme_log.specs.declared.event.Event.TheVariants.{Fetch, Post}
use Rattle.nvme_log.specs.declared.event.Event.TheVariants as event
use Rattle.nvme_log.specs.Rules.{Past, FrontRules, Each}
use Rattle.nvme_log.specs.Queues.{Deletion, pending}
use Rattle.nvme_log.specs.Places.{fetched}
use Rattle.nvme_log.specs.Histories.{picks_in}
use Rattle.nvme_log.specs.Loaded.{without_posts, FilledBefore, FetchesLast, ends_deletion, ClosedAtOnce}
use Rattle.nvme_log.proofs.Tables.{with_events}
use Rattle.nvme_log.proofs.Waiting.{fetched-fetch}
use Rattle.nvme_log.proofs.Prefixes.{fetched-after}

-- an event is neither a fetch nor a pick
abbrev pub IsOther : Event → Type 0
IsOther (Fetch r i entry) = ⊥
IsOther (event.Pick seen pick) = ⊥
IsOther e = Unit {0}

-- so is each of some
abbrev pub AreOther : List Event → Type 0
AreOther [] = Unit {0}
AreOther (e ∷ es) = IsOther e × AreOther es

-- the newest event is no fetch
abbrev pub EndsNoFetch : Past → Type 0
EndsNoFetch (Fetch r i entry ∷ past) = ⊥
EndsNoFetch past = Unit {0}

-- then any event may come next
pub last-after : (past : Past) → EndsNoFetch past → (e : Event) → FetchesLast past e
last-after [] none e = tt
last-after (Fetch r i entry ∷ past) none e = absurd none
last-after (other ∷ past) none e = tt

-- and a pick always
pub last-pick : (past : Past) (seen : List Seen) (pick : Pick) → FetchesLast past (event.Pick seen pick)
last-pick [] seen pick = tt
last-pick (Fetch r i entry ∷ past) seen pick = refl
last-pick (other ∷ past) seen pick = tt

-- while a deletion is pending, the newest event is no fetch
pub pending-ends : (past : Past) → Each ClosedAtOnce past → (d : Deletion) → pending past ≡ Some d → EndsNoFetch past
pending-ends [] h d is = tt
pending-ends (Fetch r i entry ∷ past) h d is = absurd (let no_fetch = subst (λ o. ends_deletion o (Fetch r i entry) ≡ true) is h.0 in cc no_fetch)
pending-ends (other ∷ past) h d is = tt

-- after others the newest event is no fetch
pub ends-others : (es : List Event) (past : Past) → AreOther es → EndsNoFetch (without_posts past) → EndsNoFetch (without_posts (with_events es past))
ends-others [] past o none = none
ends-others (Post c r i cqe ∷ es) past o none = ends-others es (Post c r i cqe ∷ past) o.1 none
ends-others (Fetch r i entry ∷ es) past o none = absurd o.0
ends-others (event.Pick seen pick ∷ es) past o none = absurd o.0
ends-others (e ∷ es) past o none = ends-others es (e ∷ past) o.1 tt

-- others may come where the newest event is no fetch
pub last-others : (es : List Event) (past : Past) → AreOther es → EndsNoFetch (without_posts past) → Each FetchesLast (without_posts past)
    → Each FetchesLast (without_posts (with_events es past))
last-others [] past o none h = h
last-others (Post c r i cqe ∷ es) past o none h = last-others es (Post c r i cqe ∷ past) o.1 none h
last-others (Fetch r i entry ∷ es) past o none h = absurd o.0
last-others (event.Pick seen pick ∷ es) past o none h = absurd o.0
last-others (e ∷ es) past o none h = last-others es (e ∷ past) o.1 tt (last-after (without_posts past) none e, h)

-- and nothing need be filled before them
pub filled-others : (rules : FrontRules) (scripts : ℕ → List Sqe) (es : List Event) (past : Past) → AreOther es → Each (FilledBefore rules scripts) (without_posts past)
    → Each (FilledBefore rules scripts) (without_posts (with_events es past))
filled-others rules scripts [] past o h = h
filled-others rules scripts (Post c r i cqe ∷ es) past o h = filled-others rules scripts es (Post c r i cqe ∷ past) o.1 h
filled-others rules scripts (Fetch r i entry ∷ es) past o h = absurd o.0
filled-others rules scripts (event.Pick seen pick ∷ es) past o h = absurd o.0
filled-others rules scripts (e ∷ es) past o h = filled-others rules scripts es (e ∷ past) o.1 (tt, h)

-- a longer log has no fewer fetches
fetches-grow : (es : List Event) (past : Past) (r : ℕ) → length (fetched past r) ≤ length (fetched (with_events es past) r)
fetches-grow [] past r = omega arith
fetches-grow (e ∷ es) past r =
    let more = fetches-grow es (e ∷ past) r in
    let one = fetched-after (e ∷ []) past r in
    omega (arith, more, ap length one.1, length-append (fetched past r) one.0)

-- where no pick came and no more was fetched, all events are others
pub others-in : (es : List Event) (past : Past) → picks_in es ≡ 0 → ((r : ℕ) → length (fetched (with_events es past) r) ≡ length (fetched past r)) → AreOther es
others-in [] past none same = tt
others-in (event.Pick seen pick ∷ es) past none same = absurd (omega (arith, none))
others-in (Fetch r i entry ∷ es) past none same =
    absurd (omega (arith, same r, fetches-grow es (Fetch r i entry ∷ past) r, ap length (fetched-fetch past r i entry), length_push (fetched past r) entry))
others-in (e ∷ es) past none same = (tt, others-in es (e ∷ past) none same)
