-- The counts of unposted places, and of outstanding ones, are kept by each step.
use Rattle.std.proofs.Common.{◌≡◌, ℕ, suc, ◌+◌, ◌-◌, ◌<◌, ◌≤◌, Bool, true, false, not, ◌&&◌, ◌==◌, if◌then◌else◌, List, [], ◌∷◌, ◌++◌, map, length, Option, Some, None, refl, sym, ap, ◌∙◌, subst, arith, ⊎_elim, All, true≢false}
use Rattle.std.specs.Prelude.{option_to_list}
use Rattle.std.proofs.lemmas.Bool.{cases_eq, eqb-true, eq-eqb, ne_eqb, false_from_ne_true}
use Rattle.std.proofs.lemmas.List.{length-append, length-map, length-drop}
use Rattle.std.proofs.lemmas.List.Elements.{All-head}
use Rattle.nvme_entry.specs.declared.submission.Sqe.{Sqe}
use Rattle.nvme_arbiter.specs.Board.{BoardView}
use Rattle.nvme_arbiter.specs.declared.pick.Pick.{Pick}
use Rattle.nvme_arbiter.specs.declared.pick.Seen.{Seen}
use Rattle.nvme_admin.specs.QueueTable.{QueueTable}
use Rattle.nvme_admin.specs.declared.verdict.Verdict.{Verdict}
use Rattle.nvme_admin.specs.declared.verdict.Verdict.TheVariants.{Done, BeginDelete, CloseCq}
use Rattle.nvme_admin.specs.declared.verdict.Verdict.TheVariants as verdict
use Rattle.nvme_ctrl_content.specs.Content.{Candidate, Ready, SqContent, Content, put_sq, with_ready}
use Rattle.nvme_log.specs.declared.event.Event.{Event}
use Rattle.nvme_log.specs.declared.event.Event.TheVariants.{Closing}
use Rattle.nvme_log.specs.declared.event.Event.TheVariants as event
use Rattle.nvme_log.specs.Rules.{FrontRules, Past, upto, sq_regions_of}
use Rattle.nvme_log.specs.Queues.{Queue, admin_queue, open_sq, open_cq}
use Rattle.nvme_log.specs.Places.{fetched, waiting, picked, fate_of, is_waiting, unaborted_below, one_if}
use Rattle.nvme_log.specs.Aborts.{is_abort_requested, is_aborted_with_queue}
use Rattle.nvme_log.specs.Completions.{is_posted, outstanding}
use Rattle.nvme_log.specs.Effects.{abort_in, closing_of, closed_cq_of, made_by, target_of}
use Rattle.nvme_log.specs.Laws.{count_of}
use Rattle.nvme_ctrl_content.specs.Standing.{IsReady, HoldsSq, HoldsCounts, hand_of, Holds}
use Rattle.nvme_ctrl_content.specs.Steps.{picked_sq, applied_to, oldest_named, without_oldest, verdict_at, CanPick}
use Rattle.nvme_ctrl_content.proofs.AfterSteps.{closing_from, aborting_in, aborting_from, admin_past, after_admin, after_fetch, after_io, answered, fetch_event, fetched_sq, deleting_from, post_event}
use Rattle.nvme_ctrl_log.proofs.LaterEvents.{with_events}
use Rattle.nvme_ctrl_content.proofs.StepKeeps.{KeepsFetch, KeepsIo, KeepsAdmin, KeepsPost, KeepsClose, Counts}
use Rattle.nvme_log.proofs.Counting.{count_of-push, sums_differ}
use Rattle.nvme_ctrl_content.proofs.PostedPlaces.{posted_places, posted_takers, requested_places, PostedServed, unposted_by, picked_are, unaborted_are, outstanding_by, posted_served, pick_served, abort_served, aborts_posted, aborts_served, waiting_unposted, post_places, post_takers, post_served, ready_unanswered}
use Rattle.nvme_ctrl_log.proofs.OutstandingPlaces.{outstanding_of}
use Rattle.nvme_ctrl_log.proofs.AbortRequests.{unrequested}
use Rattle.nvme_ctrl_log.proofs.AbortCounts.{outstanding-abort, outstanding-aborts}
use Rattle.nvme_ctrl_content.proofs.Named.{found_is, found_one}
use Rattle.nvme_ctrl_content.proofs.AdminPick.{deleted_region, target_region, others_wait, others_fate, took_delete, took_request, made_request, found_before}
use Rattle.nvme_ctrl_content.proofs.Windows.{window-below, window-waits}
use Rattle.nvme_ctrl_log.proofs.AbortTargets.{target_is}

-- ---- what a step without a post leaves
-- a submission region has as many places that wait or are unposted as before, and those that were fetched since
abbrev pub Balanced : SqContent → SqContent → Type 0
Balanced s t = t.unposted + length t.window + length s.got ≡ s.unposted + length s.window + length t.got

-- one step after another
Balanced-trans : (s t u : SqContent) → Balanced s t → Balanced t u → Balanced s u
Balanced-trans s t u h g = omega (arith, h, g)

-- another region in the place of one
Balanced-put : (sq : ℕ → SqContent) (x : ℕ) (s : SqContent) → Balanced (sq x) s → (r : ℕ) → Balanced (sq r) (put_sq sq x s r)
Balanced-put sq x s h r = by (r == x) refl where
  by : (b : Bool) → (r == x) ≡ b → Balanced (sq r) (if b then s else sq r)
  by true e = subst (λ (z : ℕ). Balanced (sq z) s) (sym (eqb-true r x e)) h
  by false e = refl

-- a longer log has the same posts and aborts, and d more commands of one region picked
pub record PicksMore (past later : Past) (x d : ℕ) : Type 0 where
  pub takers : (r : ℕ) → posted_takers later r ≡ posted_takers past r
  pub asked : (r : ℕ) → requested_places later r ≡ requested_places past r
  pub taken : (r : ℕ) → picked later r ≡ picked past r + (if x == r then d else 0)
  pub served : (r : ℕ) → PostedServed later r

-- no more places are picked than aren't aborted
abbrev pub FewPicked : Past → ℕ → Type 0
FewPicked past r = picked past r ≤ unaborted_below past r (length (fetched past r))

-- a region of which the kept places stand has no more picks
few_picked : (past : Past) (r : ℕ) (s : SqContent) → HoldsSq past r s → FewPicked past r
few_picked past r s h = subst (λ (z : List Sqe). picked past r ≤ unaborted_below past r (length z)) (sym h.fetched_is) h.few_picked

-- then d more places are outstanding
outstanding_more : (rules : FrontRules) (past later : Past) (x d : ℕ) → ((r : ℕ) → PostedServed past r) → ((r : ℕ) → FewPicked past r) → ((r : ℕ) → FewPicked later r)
    → PicksMore past later x d → x < length (sq_regions_of rules) → outstanding rules later ≡ outstanding rules past + d
outstanding_more rules past later x d served few later_few more lt =
    sums_differ (λ (r : ℕ). outstanding_of past r) (λ (r : ℕ). outstanding_of later r) x d
    (λ (r : ℕ).
    let before = outstanding_by past r (served r) (few r) in
    let after = outstanding_by later r (more.served r) (later_few r) in
    let takers = more.takers r in
    let asked = more.asked r in
    let taken = more.taken r in
    omega (arith, before, after, takers, asked, taken))
    (length (sq_regions_of rules)) lt

-- as many places of a region wait as its window has candidates
waiting_many : (past : Past) (r : ℕ) (s : SqContent) → HoldsSq past r s → length (waiting past r) ≡ length s.window
waiting_many past r s h = ap (λ (z : List ℕ). length z) h.waiting_is ∙ length-map s.window (λ (c : Candidate). c.index)

-- as many entries of a region were fetched as were got
fetched_many : (past : Past) (r : ℕ) (s : SqContent) → HoldsSq past r s → length (fetched past r) ≡ length s.got
fetched_many past r s h = ap (λ (z : List Sqe). length z) h.fetched_is

-- a step without a post, after which d more places are outstanding
pub record CountsMore (rules : FrontRules) (past later : Past) (k l : Content) (d : ℕ) : Type 0 where
  pub posted : (r : ℕ) → posted_places later r ≡ posted_places past r
  pub served : (r : ℕ) → PostedServed later r
  pub balanced : (r : ℕ) → Balanced (k.sq r) (l.sq r)
  pub in_log : outstanding rules later ≡ outstanding rules past + d
  pub kept : l.outstanding ≡ k.outstanding + d

-- one such step after another
CountsMore-trans : (rules : FrontRules) (past mid later : Past) (k m l : Content) (d e : ℕ) → CountsMore rules past mid k m d → CountsMore rules mid later m l e
    → CountsMore rules past later k l (d + e)
CountsMore-trans rules past mid later k m l d e h g = record {
  posted = λ (r : ℕ). g.posted r ∙ h.posted r;
  served = g.served;
  balanced = λ (r : ℕ). Balanced-trans (k.sq r) (m.sq r) (l.sq r) (h.balanced r) (g.balanced r);
  in_log = let one = h.in_log in let two = g.in_log in omega (arith, one, two);
  kept = let one = h.kept in let two = g.kept in omega (arith, one, two);
}

-- the counts after it
counts_after : (rules : FrontRules) (past later : Past) (k l : Content) (d : ℕ) → ((r : ℕ) → HoldsSq past r (k.sq r)) → ((r : ℕ) → HoldsSq later r (l.sq r))
    → ((r : ℕ) → PostedServed past r) → CountsMore rules past later k l d → HoldsCounts rules past k → HoldsCounts rules later l
counts_after rules past later k l d before after served more h = record {
  unposted = λ (r : ℕ).
      let was = unposted_by past r (served r) in
      let is = unposted_by later r (more.served r) in
      let w = waiting_many past r (k.sq r) (before r) in
      let w' = waiting_many later r (l.sq r) (after r) in
      let f = fetched_many past r (k.sq r) (before r) in
      let f' = fetched_many later r (l.sq r) (after r) in
      let q = more.posted r in
      let b = more.balanced r in
      let u = h.unposted r in
      omega (arith, was, is, w, w', f, f', q, b, u);
  outstanding_is = let o = more.in_log in let n = more.kept in let u = h.outstanding_is in omega (arith, o, n, u);
}

-- ---- what stands, for the steps
module _ (rules : FrontRules) (late : Bool) (past : Past) (k : Content) (s : Holds rules late past k) where
  -- what is posted doesn't wait
  served_now : (r : ℕ) → PostedServed past r
  served_now r = posted_served past k (hand_of k) s.ready r

  -- the region of an open queue is one of the front's
  pub region_there : (q : ℕ) (queue : Queue) → open_sq past q ≡ Some queue → queue.region < length (sq_regions_of rules)
  region_there q queue e =
      let a = s.queues.attached q queue e in
      let there = s.queues.sq_there queue.region (record { qid = q; cq_region = a.cq_region }) a.attached in
      let many = s.tabled.sq_number in
      omega (arith, there, many)

  -- a pick of an open queue takes its number of commands more from the queue's region
  picks_more : (queue : Queue) (seen : List Seen) (pick : Pick) → open_sq past pick.qid ≡ Some queue → PicksMore past (event.Pick seen pick ∷ past) queue.region pick.n
  picks_more queue seen pick e = record {
    takers = λ r. refl;
    asked = λ r. refl;
    taken = λ (r : ℕ). rw e (more (queue.region == r) (picked past r));
    served = λ (r : ℕ). pick_served past seen pick r (served_now r);
  } where
    more : (b : Bool) (n : ℕ) → (if b then n + pick.n else n) ≡ n + (if b then pick.n else 0)
    more true n = refl
    more false n = omega arith

  -- a pick takes no more commands than wait
  few_picked_after : (queue : Queue) (seen : List Seen) (pick : Pick) → open_sq past pick.qid ≡ Some queue → pick.n ≤ length (k.sq queue.region).window
      → (r : ℕ) → FewPicked (event.Pick seen pick ∷ past) r
  few_picked_after queue seen pick e enough r = rw e (by (queue.region == r) refl) where
    by : (b : Bool) → (queue.region == r) ≡ b → (if b then picked past r + pick.n else picked past r) ≤ unaborted_below past r (length (fetched past r))
    by true here =
        let same : queue.region ≡ r = eqb-true queue.region r here in
        let few = few_picked past r (k.sq r) (s.regions r) in
        let p = picked_are past r (length (fetched past r)) few in
        let u = unaborted_are past r (length (fetched past r)) in
        let w = waiting_many past r (k.sq r) (s.regions r) in
        let n : pick.n ≤ length (k.sq r).window = subst (λ (z : ℕ). pick.n ≤ length (k.sq z).window) same enough in
        omega (arith, p, u, w, n)
    by false here = few_picked past r (k.sq r) (s.regions r)

  -- what is picked from a window is unposted
  picked_balanced : (t : SqContent) (n : ℕ) → n ≤ length t.window → Balanced t (picked_sq t n)
  picked_balanced t n le =
      let left = length-drop n t.window in
      omega (arith, left, le)

-- a pick leaves as many places more outstanding as it picks
pub outstanding-pick : (rules : FrontRules) (late : Bool) (past : Past) (k : Content) (queue : Queue) (seen : List Seen) (pick : Pick)
    → Holds rules late past k → open_sq past pick.qid ≡ Some queue → pick.n ≤ length (k.sq queue.region).window → outstanding rules (event.Pick seen pick ∷ past) ≡ outstanding rules past + pick.n
outstanding-pick rules late past k queue seen pick s is_open enough =
    outstanding_more rules past (event.Pick seen pick ∷ past) queue.region pick.n (served_now rules late past k s)
    (λ (r : ℕ). few_picked past r (k.sq r) (s.regions r)) (few_picked_after rules late past k s queue seen pick is_open enough)
    (picks_more rules late past k s queue seen pick is_open) (region_there rules late past k s pick.qid queue is_open)

-- ---- the steps
-- an entry more counts no place that was posted
count_fetched : (t : ℕ → Bool) (b : Bool) (entries : List Sqe) (entry : Sqe) → t (length entries) ≡ false
    → count_of t (upto (length (if b then entries ++ entry ∷ [] else entries))) ≡ count_of t (upto (length entries))
count_fetched t true entries entry none =
    let many : length (entries ++ entry ∷ []) ≡ suc (length entries) = omega (arith, length-append entries (entry ∷ [])) in
    let more = count_of-push t (upto (length entries)) (length entries) in
    rw many (more ∙ rw none (omega arith))
count_fetched t false entries entry none = refl

-- no command more, at any region
none_either : (b : Bool) (n : ℕ) → n ≡ n + (if b then 0 else 0)
none_either true n = omega arith
none_either false n = omega arith

-- a fetch keeps the counts: a place more waits
pub counts-fetch : KeepsFetch Counts
counts-fetch rules late past k q queue entry s can after =
    let later = fetch_event k queue entry ∷ past in
    let served = served_now rules late past k s in
    counts_after rules past later k (after_fetch k q queue entry) 0 s.regions after served
    (record {
      posted = λ (r : ℕ). count_fetched (λ (i : ℕ). is_posted past r i) (queue.region == r) (fetched past r) entry (fresh r);
      served = served;
      balanced = Balanced-put k.sq queue.region (fetched_sq (k.sq queue.region) entry) (more (k.sq queue.region));
      in_log = outstanding_more rules past later queue.region 0 served (λ (r : ℕ). few_picked past r (k.sq r) (s.regions r))
          (λ (r : ℕ). few_picked later r ((after_fetch k q queue entry).sq r) (after r))
          (record {
            takers = λ (r : ℕ). count_fetched (λ (i : ℕ). is_posted past r i && not (is_aborted_with_queue past r i)) (queue.region == r) (fetched past r) entry
                (ap (λ (z : Bool). z && not (is_aborted_with_queue past r (length (fetched past r)))) (fresh r));
            asked = λ (r : ℕ). count_fetched (λ (i : ℕ). is_abort_requested past r i) (queue.region == r) (fetched past r) entry (unasked r);
            taken = λ (r : ℕ). none_either (queue.region == r) (picked past r);
            served = served;
          })
          (region_there rules late past k s q queue can.is_open);
      kept = omega arith;
    }) s.counts where
      fresh : (r : ℕ) → is_posted past r (length (fetched past r)) ≡ false
      fresh r =
          let many = fetched_many past r (k.sq r) (s.regions r) in
          (s.regions r).none_posted (length (fetched past r)) (omega (arith, many))

      unasked : (r : ℕ) → is_abort_requested past r (length (fetched past r)) ≡ false
      unasked r =
          let many = fetched_many past r (k.sq r) (s.regions r) in
          unrequested past r (length (fetched past r)) ((s.regions r).none_aborted (length (fetched past r)) (omega (arith, many)))

      more : (t : SqContent) → Balanced t (fetched_sq t entry)
      more t =
          let got = length-append t.got (entry ∷ []) in
          let window = length-append t.window (record { index = t.fetched; entry = entry } ∷ []) in
          omega (arith, got, window)

-- an I/O pick keeps the counts: the picked places are unposted and outstanding
pub counts-io : KeepsIo Counts
counts-io rules late past k queue seen pick board c s can is_seen not_admin attached after =
    counts_after rules past (event.Pick seen pick ∷ past) k (after_io k queue pick.n board) pick.n s.regions after (served_now rules late past k s)
    (record {
      posted = λ r. refl;
      served = λ (r : ℕ). pick_served past seen pick r (served_now rules late past k s r);
      balanced = Balanced-put k.sq queue.region (picked_sq (k.sq queue.region) pick.n) (picked_balanced rules late past k s (k.sq queue.region) pick.n can.enough);
      in_log = outstanding-pick rules late past k queue seen pick s can.is_open can.enough;
      kept = refl;
    }) s.counts

-- the end of a deletion keeps the counts: it takes and posts no place
pub counts-close : KeepsClose Counts
counts-close rules late past k d table s can after = record { unposted = s.counts.unposted; outstanding_is = s.counts.outstanding_is }

-- ---- an admin pick
-- one place more is outstanding after an admin pick
pub outstanding-admin : (rules : FrontRules) (late : Bool) (past : Past) (k : Content) (seen : List Seen) (pick : Pick)
    → Holds rules late past k → open_sq past pick.qid ≡ Some admin_queue → pick.n ≤ length (k.sq 0).window → pick.n ≡ 1 → outstanding rules (event.Pick seen pick ∷ past) ≡ outstanding rules past + 1
outstanding-admin rules late past k seen pick s is_open enough one =
    outstanding-pick rules late past k admin_queue seen pick s is_open enough ∙ ap (λ (z : ℕ). outstanding rules past + z) one

-- the abort of an Abort command leaves one place more outstanding
pub outstanding-request : (rules : FrontRules) (late : Bool) (past : Past) (k : Content) (seen : List Seen) (pick : Pick) (picked : BoardView)
    (candidate : Candidate) (rest : List Candidate) (table : QueueTable) (s : Holds rules late past k) → open_sq past pick.qid ≡ Some admin_queue
    → pick.qid ≡ 0 → (k.sq 0).window ≡ candidate ∷ rest → (sqid cid : ℕ) (queue : Queue) (found : Candidate) → target_of past sqid ≡ Some queue
    → oldest_named cid ((applied_to k picked table).sq queue.region).window ≡ Some found → verdict_at rules s.tabled.history candidate ≡ verdict.Abort sqid cid
    → outstanding rules (event.Abort queue.region found.index ∷ event.Pick seen pick ∷ past) ≡ outstanding rules (event.Pick seen pick ∷ past) + 1
outstanding-request rules late past k seen pick picked candidate rest table s is_open first oldest sqid cid queue found target finds is =
    let mid : Past = event.Pick seen pick ∷ past in
    let before = found_before rules late past k seen pick picked s is_open first table sqid cid queue found target finds in
    let waited : is_waiting (fate_of past queue.region found.index) ≡ true =
    found_is cid (k.sq queue.region).window found before (λ (d : Candidate). is_waiting (fate_of past queue.region d.index) ≡ true) (window-waits past queue.region (k.sq queue.region) (s.regions queue.region)) in
    outstanding-abort rules mid queue.region found.index
    (ap is_waiting (others_fate rules late past k seen pick picked s is_open first queue.region (target_region rules late past k seen pick picked s is_open first sqid queue target) found.index) ∙ waited)
    (found_is cid (k.sq queue.region).window found before (λ (d : Candidate). d.index < length (fetched past queue.region)) (window-below past queue.region (k.sq queue.region) (s.regions queue.region)))
    (false_from_ne_true (is_posted past queue.region found.index) (λ posted. true≢false (sym waited ∙ served_now rules late past k s queue.region found.index posted)))
    (region_there rules late past k s sqid queue (target_is past sqid queue target).1)
    ∙ ap (λ (b : Bool). outstanding rules mid + one_if b) (took_request rules late past k seen pick picked s is_open first candidate rest sqid cid oldest is)

module _ (rules : FrontRules) (late : Bool) (past : Past) (k : Content) (seen : List Seen) (pick : Pick) (picked : BoardView)
    (candidate : Candidate) (rest : List Candidate) (table : QueueTable) (c : ℕ) (board : BoardView) (s : Holds rules late past k)
    (can : CanPick rules past k admin_queue pick picked) (first : pick.qid ≡ 0) (one : pick.n ≡ 1) (oldest : (k.sq 0).window ≡ candidate ∷ rest) where
  -- the log after the pick, and what is kept
  abbrev mid : Past
  mid = event.Pick seen pick ∷ past

  abbrev now : Content
  now = applied_to k picked table

  -- what is posted doesn't wait
  mid_served : (r : ℕ) → PostedServed mid r
  mid_served r = pick_served past seen pick r (served_now rules late past k s r)

  -- the pick
  pick_counts : CountsMore rules past mid k now 1
  pick_counts = record {
    posted = λ r. refl;
    served = mid_served;
    balanced =
        let enough = can.enough in
        Balanced-put k.sq 0 (picked_sq (k.sq 0) 1) (picked_balanced rules late past k s (k.sq 0) 1 (omega (arith, enough, one)));
    in_log = outstanding-admin rules late past k seen pick s can.is_open can.enough one;
    kept = refl;
  }

  -- what a command leaves: some number of places more outstanding
  abbrev Leaves : List Event → Content → Type 0
  Leaves made after = (d : ℕ) × CountsMore rules mid (with_events made mid) now after d

  -- no place more
  leaves_none : (made : List Event) (after : Content) → ((r : ℕ) → posted_places (with_events made mid) r ≡ posted_places mid r) → ((r : ℕ) → PostedServed (with_events made mid) r)
      → ((r : ℕ) → Balanced (now.sq r) (after.sq r)) → outstanding rules (with_events made mid) ≡ outstanding rules mid → after.outstanding ≡ now.outstanding → Leaves made after
  leaves_none made after posted served balanced in_log kept = (
    0,
    record {
      posted = posted;
      served = served;
      balanced = balanced;
      in_log = omega (arith, in_log);
      kept = omega (arith, kept);
    },
  )

  -- a completion queue is closed, where it is open
  closes_cq : (qid : ℕ) (o : Option ℕ) → Leaves (closed_cq_of qid o) (with_ready (closing_from now qid o) 0 (answered candidate (CloseCq qid)))
  closes_cq qid None = leaves_none [] _ (λ r. refl) mid_served (λ r. refl) refl refl
  closes_cq qid (Some region) = leaves_none (event.ClosedCq qid region ∷ []) _ (λ r. refl) mid_served (λ r. refl) refl refl

  -- the deletion of a queue begins, where it is open: what waits is aborted, and unposted
  begins_delete : (qid : ℕ) (o : Option Queue) → open_sq past qid ≡ o → verdict_at rules s.tabled.history candidate ≡ BeginDelete qid
      → Leaves (closing_of past qid o) (deleting_from now qid c candidate o)
  begins_delete qid None is begins = leaves_none [] _ (λ r. refl) mid_served (λ r. refl) refl refl
  begins_delete qid (Some queue) is begins =
      let base : Past = Closing qid queue.region ∷ mid in
      let ws : List ℕ = waiting past queue.region in
      let apart = deleted_region rules late past k seen pick picked s can.is_open first candidate qid queue begins is in
      leaves_none (closing_of past qid (Some queue)) (deleting_from now qid c candidate (Some queue))
      (λ (r : ℕ). aborts_posted queue.region ws base r)
      (λ (r : ℕ). aborts_served queue.region ws base r (mid_served r))
      (Balanced-put now.sq queue.region (record (now.sq queue.region) { window = []; unposted = (now.sq queue.region).unposted + length (now.sq queue.region).window })
      (omega arith))
      (outstanding-aborts rules queue.region ws base (others_wait rules late past k seen pick picked s can.is_open first queue.region apart)
      (waiting_unposted past queue.region (served_now rules late past k s queue.region))
      (took_delete rules late past k seen pick picked s can.is_open first candidate rest qid oldest begins) (region_there rules late past k s qid queue is))
      refl

  -- an Abort command finds a candidate of a queue, or none
  aborts_one : (sqid cid : ℕ) (queue : Queue) → target_of past sqid ≡ Some queue → verdict_at rules s.tabled.history candidate ≡ verdict.Abort sqid cid
      → (o : Option Candidate) → oldest_named cid (now.sq queue.region).window ≡ o
      → Leaves (map (λ (i : ℕ). event.Abort queue.region i) (map (λ (d : Candidate). d.index) (option_to_list o))) (aborting_in now candidate sqid queue.region c cid board o)
  aborts_one sqid cid queue target is None finds = leaves_none [] _ (λ r. refl) mid_served (λ r. refl) refl refl
  aborts_one sqid cid queue target is (Some found) finds = (
    1,
    record {
      posted = λ r. refl;
      served = λ (r : ℕ). abort_served mid queue.region found.index r (mid_served r);
      balanced =
          let fewer = found_one cid (now.sq queue.region).window found finds in
          Balanced-put now.sq queue.region
          (record (now.sq queue.region) { window = without_oldest cid (now.sq queue.region).window; unposted = (now.sq queue.region).unposted + 1 })
          (omega (arith, fewer));
      in_log = outstanding-request rules late past k seen pick picked candidate rest table s can.is_open first oldest sqid cid queue found target finds is;
      kept = refl;
    },
  )

  -- an Abort command, by the queue whose candidates it may abort
  aborts : (sqid cid : ℕ) (o : Option Queue) → target_of past sqid ≡ o → verdict_at rules s.tabled.history candidate ≡ verdict.Abort sqid cid
      → Leaves (abort_in past cid o) (aborting_from now candidate sqid c cid board o)
  aborts sqid cid None target is = leaves_none [] _ (λ r. refl) mid_served (λ r. refl) refl refl
  aborts sqid cid (Some queue) target is =
      subst (λ (ds : List ℕ). Leaves (map (λ (i : ℕ). event.Abort queue.region i) ds) (aborting_in now candidate sqid queue.region c cid board (oldest_named cid (now.sq queue.region).window)))
      (sym (made_request rules late past k seen pick picked s can.is_open first table sqid cid queue target))
      (aborts_one sqid cid queue target is (oldest_named cid (now.sq queue.region).window) refl)

  -- a command of each verdict
  leaves : (v : Verdict) → verdict_at rules s.tabled.history candidate ≡ v → Leaves (made_by past v) (after_admin past now candidate c board v)
  leaves (Done status dw0) is = leaves_none [] _ (λ r. refl) mid_served (λ r. refl) refl refl
  leaves (verdict.OpenSq qid region cqid class) is =
      leaves_none (event.OpenSq qid region cqid class ∷ []) _ (λ r. refl) mid_served
      (Balanced-put now.sq region (record (now.sq region) { queue = Some (record { qid = qid; cq_region = c }) }) refl) refl refl
  leaves (verdict.OpenCq qid region) is = leaves_none (event.OpenCq qid region ∷ []) _ (λ r. refl) mid_served (λ r. refl) refl refl
  leaves (CloseCq qid) is = closes_cq qid (open_cq past qid)
  leaves (verdict.SetArbitration settings) is = leaves_none (event.SetArbitration settings ∷ []) _ (λ r. refl) mid_served (λ r. refl) refl refl
  leaves (BeginDelete qid) is = begins_delete qid (open_sq past qid) refl is
  leaves (verdict.Abort sqid cid) is = aborts sqid cid (target_of past sqid) refl is

-- an admin pick keeps the counts: the picked place is unposted and outstanding, and so is one that an Abort command aborts. What is aborted with its
-- queue is unposted alone
pub counts-admin : KeepsAdmin Counts
counts-admin rules late past k seen pick picked candidate rest table c board s can is_seen first one applies chosen after =
    let v = verdict_at rules s.tabled.history candidate in
    let made = leaves rules late past k seen pick picked candidate rest table c board s can first one applies.oldest v refl in
    counts_after rules past (admin_past past (event.Pick seen pick) v) k (after_admin past (applied_to k picked table) candidate c board v) (1 + made.0) s.regions after
    (served_now rules late past k s)
    (CountsMore-trans rules past (event.Pick seen pick ∷ past) (admin_past past (event.Pick seen pick) v) k (applied_to k picked table)
    (after_admin past (applied_to k picked table) candidate c board v) 1 made.0
    (pick_counts rules late past k seen pick picked candidate rest table c board s can first one applies.oldest) made.1) s.counts

-- ---- a post
-- a region of which a completion is posted
post_kept : (sq : ℕ → SqContent) (r0 r : ℕ) → (put_sq sq r0 (record (sq r0) { unposted = (sq r0).unposted - 1 }) r).unposted ≡ (sq r).unposted - (if r0 == r then 1 else 0)
post_kept sq r0 r =
    ⊎_elim
    (λ (same : r ≡ r0). rw (eq-eqb r r0 same, eq-eqb r0 r (sym same)) (ap (λ (z : ℕ). (sq z).unposted - 1) (sym same)))
    (λ (other : r ≡ r0 → ⊥). rw (ne_eqb r r0 other, ne_eqb r0 r (λ e. other (sym e))) (omega arith))
    (cases_eq r r0)

-- a post keeps the counts: its place was unposted, and outstanding where it wasn't aborted with its queue
pub counts-post : KeepsPost Counts
counts-post rules late past k c t rest cqe s can after =
    let later = post_event c t cqe ∷ past in
    let it = ready_unanswered past k (hand_of k) s.ready c t rest can.oldest in
    let is = All-head (λ (z : Ready). IsReady past k.deletion c z) t rest (subst (λ (z : List Ready). All (λ (x : Ready). IsReady past k.deletion c x) z) can.oldest (s.ready.each c)) in
    let served = served_now rules late past k s in
    let later_served = λ (r : ℕ). post_served past c t.place.region t.place.index r cqe it.was_served (served r) in
    let there = s.queues.sq_there t.place.region (record { qid = t.sqid; cq_region = c }) can.attached in
    record {
      unposted = λ (r : ℕ).
          let was = unposted_by past r (served r) in
          let now = unposted_by later r (later_served r) in
          let more = post_places past c t.place.region t.place.index r cqe it.was_fetched it.no_post in
          let kept = post_kept k.sq t.place.region r in
          let u = s.counts.unposted r in
          omega (arith, was, now, more, kept, u);
      outstanding_is =
          let many = s.tabled.sq_number in
          let less = sums_differ (λ (r : ℕ). outstanding_of later r) (λ (r : ℕ). outstanding_of past r) t.place.region (one_if (not (is_aborted_with_queue past t.place.region t.place.index)))
          (λ (r : ℕ).
          let few = few_picked past r (k.sq r) (s.regions r) in
          let was = outstanding_by past r (served r) few in
          let now = outstanding_by later r (later_served r) few in
          let more = post_takers past c t.place.region t.place.index r cqe it.was_fetched it.no_post in
          omega (arith, was, now, more))
          (length (sq_regions_of rules)) (omega (arith, there, many)) in
          let o = s.counts.outstanding_is in
          let a : one_if (not t.with_queue) ≡ one_if (not (is_aborted_with_queue past t.place.region t.place.index)) = ap (λ (z : Bool). one_if (not z)) is.with_queue in
          omega (arith, less, o, a);
    }
