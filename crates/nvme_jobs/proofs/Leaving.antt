-- Events after which the same I/O commands are picked, which keep the jobs.
use Rattle.std.proofs.Common.{◌≡◌, ℕ, zero, suc, ◌<◌, ◌≤◌, ◌==◌, Bool, true, false, List, [], ◌∷◌, ◌++◌, length, map, take, Option, Some, None, refl, sym, ap, ◌∙◌, subst, arith, slice_index_or, slice_get}
use Rattle.std.specs.Prelude.{filter}
use Rattle.std.proofs.lemmas.Bool.{eq-eqb, ne_eqb}
use Rattle.std.proofs.lemmas.List.{append-nil}
use Rattle.nvme_entry.specs.declared.submission.Sqe.{Sqe}
use Rattle.nvme_arbiter.specs.declared.pick.Pick.{Pick}
use Rattle.nvme_arbiter.specs.declared.pick.Seen.{Seen}
use Rattle.nvme_admin.specs.declared.verdict.Verdict.{Verdict}
use Rattle.nvme_admin.specs.declared.verdict.Verdict.TheVariants.{Done, BeginDelete, CloseCq}
use Rattle.nvme_admin.specs.declared.verdict.Verdict.TheVariants as verdict
use Rattle.nvme_log.specs.declared.event.Event.{Event}
use Rattle.nvme_log.specs.declared.event.Event.TheVariants as event
use Rattle.nvme_log.specs.declared.place.Place.{Place}
use Rattle.nvme_log.specs.Rules.{Past}
use Rattle.nvme_log.specs.Queues.{Queue, admin_queue, open_sq, open_cq, has_region}
use Rattle.nvme_log.specs.Places.{fetched, waiting, entry_at, fate_of, is_picked}
use Rattle.nvme_log.specs.Dispatches.{dispatched, dispatched_by}
use Rattle.nvme_jobs.specs.Executions.{AreJobs}
use Rattle.nvme_log.specs.Effects.{made_by, closing_of, closed_cq_of, abort_in, has_cid, named, target_of}
use Rattle.nvme_log.proofs.Tables.{with_events}
use Rattle.nvme_log.proofs.Waiting.{fate_of-same, picked-pick_other, waiting-pick_other, waiting-contains, waiting-abort, is_aborted-abort_other}
use Rattle.nvme_jobs.specs.declared.dispatched.Dispatched.{Dispatched}
use Rattle.nvme_jobs.specs.Hands.{in_hand, job_in}
use Rattle.nvme_jobs.specs.inside.Jobs.{JobsView}
use Rattle.nvme_jobs.specs.inside.Standing.{HoldsJobs, HoldsJobsBut, IsOther}
use Rattle.nvme_jobs.proofs.JobAccounts.{AreJobs-stay}
use Rattle.nvme_jobs.proofs.PickedPlaces.{PicksNoMore, entry_stays, picks-fetch, picks-abort}

-- ---- a log that goes on so
pub record Leaves (past later : Past) : Type 0 where
  pub none_dispatched : dispatched later ≡ dispatched past
  pub longer : length past ≤ length later
  pub entries : (r i : ℕ) (e : Sqe) → entry_at past r i ≡ Some e → entry_at later r i ≡ Some e
  pub picks : PicksNoMore past later

-- with no event
pub leaves-none : (past : Past) → Leaves past past
leaves-none past = record { none_dispatched = refl; longer = omega arith; entries = λ r i e h. h; picks = λ r i io it. it }

-- with some events, and with more after these
pub leaves-trans : (a b c : Past) → Leaves a b → Leaves b c → Leaves a c
leaves-trans a b c first next = record {
  none_dispatched = next.none_dispatched ∙ first.none_dispatched;
  longer = omega (arith, first.longer, next.longer);
  entries = λ r i e h. next.entries r i e (first.entries r i e h);
  picks = λ r i io it. first.picks r i io (next.picks r i io it);
}

-- the jobs are left, also where some are still to be added
pub jobs_but-left : (sizes : List ℕ) (past later : Past) (j : JobsView) (rest : List Place) → HoldsJobsBut sizes past j rest → Leaves past later → HoldsJobsBut sizes later j rest
jobs_but-left sizes past later j rest h l = record {
  added = h.added;
  dispatched_are = l.none_dispatched ∙ h.dispatched_are;
  tickets_are = h.tickets_are;
  few = omega (arith, h.few, l.longer, ap (λ (ps : List Place). length ps) l.none_dispatched);
  account = record {
    handed = h.account.handed;
    seat_handed = h.account.seat_handed;
    jobs_are = AreJobs-stay sizes past later l.entries 0 h.added (h.account.handed ++ map (job_in sizes) j.hands.unhanded) h.account.jobs_are;
    done = h.account.done;
    each_handed = h.account.each_handed;
    others = h.account.others;
    each_gained = h.account.each_gained;
    places = λ i e lt. ap (λ (ps : List Place). slice_get ps (slice_index_or (in_hand j.hands) i e).ticket) l.none_dispatched ∙ h.account.places i e lt;
  };
  each = λ i e lt.
      let d : Dispatched = slice_index_or (in_hand j.hands) i e in
      record { entry = l.entries d.place.region d.place.index d.entry (h.each i e lt).entry };
  covers = λ r i io later_picked.
      let it = h.covers r i io (l.picks r i io later_picked) in
      (it.0, ap (λ (ps : List Place). slice_get ps it.0) l.none_dispatched ∙ it.1);
}

-- ---- where no job is still to be added
pub but-none : (sizes : List ℕ) (past : Past) (j : JobsView) → HoldsJobsBut sizes past j [] → HoldsJobs sizes past j
but-none sizes past j h =
    let all : h.added ≡ dispatched past = sym (h.dispatched_are ∙ append-nil h.added) in
    record {
      tickets_are = h.tickets_are ∙ ap (λ (ps : List Place). length ps) all;
      few = omega (arith, h.few, h.tickets_are, ap (λ (ps : List Place). length ps) all);
      account = record {
        handed = h.account.handed;
        seat_handed = h.account.seat_handed;
        jobs_are = subst (λ (ps : List Place). AreJobs sizes past 0 ps (h.account.handed ++ map (job_in sizes) j.hands.unhanded)) all h.account.jobs_are;
        done = h.account.done;
        each_handed = h.account.each_handed;
        others = h.account.others;
        each_gained = h.account.each_gained;
        places = h.account.places;
      };
      each = h.each;
      covers = h.covers;
    }

pub none-but : (sizes : List ℕ) (past : Past) (j : JobsView) → HoldsJobs sizes past j → HoldsJobsBut sizes past j []
none-but sizes past j h = record {
  added = dispatched past;
  dispatched_are = sym (append-nil (dispatched past));
  tickets_are = h.tickets_are;
  few = omega (arith, h.few, h.tickets_are);
  account = h.account;
  each = h.each;
  covers = h.covers;
}

pub jobs-left : (sizes : List ℕ) (past later : Past) (j : JobsView) → HoldsJobs sizes past j → Leaves past later → HoldsJobs sizes later j
jobs-left sizes past later j h l = but-none sizes later j (jobs_but-left sizes past later j [] (none-but sizes past j h) l)

-- ---- events that leave the jobs
-- a fetch of a place that isn't aborted, behind all that were picked
leaves-fetch : (past : Past) (r index : ℕ) (entry : Sqe) → IsOther past (event.Fetch r index entry) → Leaves past (event.Fetch r index entry ∷ past)
leaves-fetch past r index entry is = record {
  none_dispatched = refl;
  longer = omega arith;
  entries = λ x i e h. entry_stays past r index x i entry e h;
  picks = picks-fetch past r index entry is.0 is.1;
}

-- the admin queue isn't that of another region
of_admin : (past : Past) (seen : List Seen) (pick : Pick) → IsOther past (event.Pick seen pick) → (r : ℕ) → (r == 0) ≡ false → has_region r (open_sq past pick.qid) ≡ false
of_admin past seen pick is r io =
    ap (λ (q : ℕ). has_region r (open_sq past q)) is.0 ∙ ap (has_region r) is.1 ∙ ne_eqb 0 r (λ e. absurd (let same = eq-eqb r 0 (sym e) in cc))

-- a pick of the admin queue
leaves-pick : (past : Past) (seen : List Seen) (pick : Pick) → IsOther past (event.Pick seen pick) → Leaves past (event.Pick seen pick ∷ past)
leaves-pick past seen pick is = record {
  none_dispatched = ap (λ (ps : List Place). dispatched past ++ ps) (none (open_sq past pick.qid)) ∙ append-nil (dispatched past);
  longer = omega arith;
  entries = λ r i e h. h;
  picks = λ r i io it.
      let fate = fate_of-same past (event.Pick seen pick ∷ past) r (picked-pick_other past seen pick r (of_admin past seen pick is r io)) (λ j. refl) i in
      record { there = it.there; was_picked = ap is_picked (sym fate) ∙ it.was_picked };
} where
  none : (o : Option Queue) → dispatched_by past pick o ≡ []
  none None = refl
  none (Some queue) = rw (eq-eqb pick.qid 0 is.0) refl

-- an abort of a place that waits
leaves-abort_at : (past : Past) (r i : ℕ) (xs ys : List ℕ) → waiting past r ≡ xs ++ i ∷ ys → Leaves past (event.Abort r i ∷ past)
leaves-abort_at past r i xs ys split =
    record { none_dispatched = refl; longer = omega arith; entries = λ x k e h. h; picks = picks-abort past r i xs ys split }

-- an item of a list stands between others
between : (xs : List ℕ) (k i : ℕ) → k < length xs → slice_index_or xs k i ≡ i → (before : List ℕ) × (after : List ℕ) × (xs ≡ before ++ i ∷ after)
between [] k i lt is = absurd (omega (arith, lt))
between (x ∷ xs) zero i lt is = ([], xs, ap (λ (z : ℕ). z ∷ xs) is)
between (x ∷ xs) (suc k) i lt is = let it = between xs k i (omega (arith, lt)) is in (x ∷ it.0, it.1, ap (λ (zs : List ℕ). x ∷ zs) it.2)

leaves-abort : (past : Past) (r i : ℕ) → IsOther past (event.Abort r i) → Leaves past (event.Abort r i ∷ past)
leaves-abort past r i is =
    let c = waiting-contains past r i is.0 is.1 in
    let it = between (waiting past r) c.0 i c.1 c.2 in
    leaves-abort_at past r i it.0 it.1 it.2

-- an event that fetches, picks and aborts nothing
leaves-still : (past : Past) (e : Event) → dispatched (e ∷ past) ≡ dispatched past → ((r : ℕ) → fetched (e ∷ past) r ≡ fetched past r)
    → ((r i : ℕ) → fate_of (e ∷ past) r i ≡ fate_of past r i) → Leaves past (e ∷ past)
leaves-still past e none same fates = record {
  none_dispatched = none;
  longer = omega arith;
  entries = λ r i x h. ap (λ (xs : List Sqe). slice_get xs i) (same r) ∙ h;
  picks = λ r i io it. record {
    there = subst (λ (xs : List Sqe). i < length xs) (same r) it.there;
    was_picked = ap is_picked (sym (fates r i)) ∙ it.was_picked;
  };
}

-- all of these leave them
pub leaves-other : (past : Past) (e : Event) → IsOther past e → Leaves past (e ∷ past)
leaves-other past (event.Fetch r index entry) is = leaves-fetch past r index entry is
leaves-other past (event.Pick seen pick) is = leaves-pick past seen pick is
leaves-other past (event.Abort r i) is = leaves-abort past r i is
leaves-other past (event.SetArbitration settings) is = leaves-still past (event.SetArbitration settings) refl (λ r. refl) (λ r i. refl)
leaves-other past (event.OpenSq qid region cqid class) is = leaves-still past (event.OpenSq qid region cqid class) refl (λ r. refl) (λ r i. refl)
leaves-other past (event.OpenCq qid region) is = leaves-still past (event.OpenCq qid region) refl (λ r. refl) (λ r i. refl)
leaves-other past (event.Closing qid region) is = leaves-still past (event.Closing qid region) refl (λ r. refl) (λ r i. refl)
leaves-other past (event.Post c region index cqe) is = leaves-still past (event.Post c region index cqe) refl (λ r. refl) (λ r i. refl)
leaves-other past (event.ClosedSq qid region) is = leaves-still past (event.ClosedSq qid region) refl (λ r. refl) (λ r i. refl)
leaves-other past (event.ClosedCq qid region) is = leaves-still past (event.ClosedCq qid region) refl (λ r. refl) (λ r i. refl)

-- the jobs are kept by an event that is no pick of an I/O queue
pub jobs-other : (sizes : List ℕ) (past : Past) (e : Event) (j : JobsView) → IsOther past e → HoldsJobs sizes past j → HoldsJobs sizes (e ∷ past) j
jobs-other sizes past e j is h = jobs-left sizes past (e ∷ past) j h (leaves-other past e is)

-- ---- a pick of the admin queue, with what its command makes
-- aborts of all places that wait, the oldest first
leaves-aborts : (r : ℕ) (is : List ℕ) (past : Past) → waiting past r ≡ is → Leaves past (with_events (map (λ (i : ℕ). event.Abort r i) is) past)
leaves-aborts r [] past are = leaves-none past
leaves-aborts r (i ∷ is) past are =
    leaves-trans past (event.Abort r i ∷ past) (with_events (map (λ (k : ℕ). event.Abort r k) is) (event.Abort r i ∷ past))
    (leaves-abort_at past r i [] is are) (leaves-aborts r is (event.Abort r i ∷ past) (waiting-abort past r i is are))

-- the first item that passes a test stands between others
first_between : (test : ℕ → Bool) (xs : List ℕ) (i : ℕ) (more : List ℕ) → filter test xs ≡ i ∷ more → (before : List ℕ) × (after : List ℕ) × (xs ≡ before ++ i ∷ after)
first_between test [] i more is = cc is
first_between test (x ∷ xs) i more is = by (test x) refl (first_between test xs i more) where
  by : (b : Bool) → test x ≡ b → (filter test xs ≡ i ∷ more → (before : List ℕ) × (after : List ℕ) × (xs ≡ before ++ i ∷ after))
      → (before : List ℕ) × (after : List ℕ) × (x ∷ xs ≡ before ++ i ∷ after)
  by true e later =
      let here : filter test (x ∷ xs) ≡ x ∷ filter test xs = rw e refl in
      let same : x ≡ i = ap (λ (zs : List ℕ). slice_index_or zs 0 x) (sym here ∙ is) in
      ([], xs, ap (λ (z : ℕ). z ∷ xs) same)
  by false e later =
      let here : filter test (x ∷ xs) ≡ filter test xs = rw e refl in
      let it = later (sym here ∙ is) in
      (x ∷ it.0, it.1, ap (λ (zs : List ℕ). x ∷ zs) it.2)

-- aborts in the region of the admin queue
leaves-aborts_admin : (r : ℕ) → (r == 0) ≡ true → (is : List ℕ) (past : Past) → Leaves past (with_events (map (λ (i : ℕ). event.Abort r i) is) past)
leaves-aborts_admin r admin [] past = leaves-none past
leaves-aborts_admin r admin (i ∷ is) past =
    leaves-trans past (event.Abort r i ∷ past) (with_events (map (λ (k : ℕ). event.Abort r k) is) (event.Abort r i ∷ past))
    (record {
      none_dispatched = refl;
      longer = omega arith;
      entries = λ x k e h. h;
      picks = λ x k io it.
          let other : r ≡ x → ⊥ = λ e. (let same : (x == 0) ≡ true = subst (λ (z : ℕ). (z == 0) ≡ true) e admin in cc) in
          let fate = fate_of-same past (event.Abort r i ∷ past) x refl (λ j. is_aborted-abort_other past r i x j other) k in
          record { there = it.there; was_picked = ap is_picked (sym fate) ∙ it.was_picked };
    })
    (leaves-aborts_admin r admin is (event.Abort r i ∷ past))

module _ (past : Past) (seen : List Seen) (pick : Pick) (is : IsOther past (event.Pick seen pick)) where
  abbrev middle : Past
  middle = event.Pick seen pick ∷ past

  leaves-middle : Leaves past middle
  leaves-middle = leaves-pick past seen pick is

  -- one more event
  leaves-next : (e : Event) → IsOther middle e → Leaves past (e ∷ middle)
  leaves-next e next = leaves-trans past middle (e ∷ middle) leaves-middle (leaves-other middle e next)

  -- the pick leaves which places of other regions wait
  still_waiting : (r : ℕ) → (r == 0) ≡ false → waiting middle r ≡ waiting past r
  still_waiting r io = waiting-pick_other past seen pick r (of_admin past seen pick is r io)

  -- the closing of a completion queue, where it is open
  leaves-closed_cq : (qid : ℕ) (o : Option ℕ) → Leaves past (with_events (closed_cq_of qid o) middle)
  leaves-closed_cq qid None = leaves-middle
  leaves-closed_cq qid (Some region) = leaves-next (event.ClosedCq qid region) tt

  -- the beginning of a deletion aborts places that wait
  leaves-closing : (qid : ℕ) (o : Option Queue) → Leaves past (with_events (closing_of past qid o) middle)
  leaves-closing qid None = leaves-middle
  leaves-closing qid (Some queue) =
      leaves-trans past (event.Closing qid queue.region ∷ middle) (with_events (closing_of past qid (Some queue)) middle)
      (leaves-next (event.Closing qid queue.region) tt) (by (queue.region == 0) refl) where
        by : (b : Bool) → (queue.region == 0) ≡ b → Leaves (event.Closing qid queue.region ∷ middle) (with_events (closing_of past qid (Some queue)) middle)
        by true admin = leaves-aborts_admin queue.region admin (waiting past queue.region) (event.Closing qid queue.region ∷ middle)
        by false io = leaves-aborts queue.region (waiting past queue.region) (event.Closing qid queue.region ∷ middle) (still_waiting queue.region io)

  -- an Abort command aborts a place that waits
  leaves-aborting : (cid : ℕ) (o : Option Queue) → Leaves past (with_events (abort_in past cid o) middle)
  leaves-aborting cid None = leaves-middle
  leaves-aborting cid (Some queue) =
      leaves-trans past middle (with_events (abort_in past cid (Some queue)) middle) leaves-middle (by (queue.region == 0) refl) where
        one : (is : List ℕ) → named past queue.region cid ≡ is → waiting middle queue.region ≡ waiting past queue.region
            → Leaves middle (with_events (map (λ (i : ℕ). event.Abort queue.region i) (take 1 is)) middle)
        one [] are same = leaves-none middle
        one (i ∷ more) are same =
            let it = first_between (λ (k : ℕ). has_cid cid (entry_at past queue.region k)) (waiting past queue.region) i more are in
            leaves-abort_at middle queue.region i it.0 it.1 (same ∙ it.2)

        by : (b : Bool) → (queue.region == 0) ≡ b → Leaves middle (with_events (abort_in past cid (Some queue)) middle)
        by true admin = leaves-aborts_admin queue.region admin (take 1 (named past queue.region cid)) middle
        by false io = one (named past queue.region cid) refl (still_waiting queue.region io)

  -- what a verdict makes
  pub leaves-made : (v : Verdict) → Leaves past (with_events (made_by past v) middle)
  leaves-made (Done status dw0) = leaves-middle
  leaves-made (verdict.OpenSq qid region cqid class) = leaves-next (event.OpenSq qid region cqid class) tt
  leaves-made (verdict.OpenCq qid region) = leaves-next (event.OpenCq qid region) tt
  leaves-made (CloseCq qid) = leaves-closed_cq qid (open_cq past qid)
  leaves-made (verdict.Abort sqid cid) = leaves-aborting cid (target_of past sqid)
  leaves-made (verdict.SetArbitration settings) = leaves-next (event.SetArbitration settings) tt
  leaves-made (BeginDelete qid) = leaves-closing qid (open_sq past qid)

-- the jobs are kept by a pick of the admin queue with what its command makes
pub jobs-made : (sizes : List ℕ) (past : Past) (seen : List Seen) (pick : Pick) (v : Verdict) (j : JobsView) → pick.qid ≡ 0 → open_sq past 0 ≡ Some admin_queue
    → HoldsJobs sizes past j → HoldsJobs sizes (with_events (made_by past v) (event.Pick seen pick ∷ past)) j
jobs-made sizes past seen pick v j admin is_open h =
    jobs-left sizes past (with_events (made_by past v) (event.Pick seen pick ∷ past)) j h (leaves-made past seen pick (admin, is_open) v)
