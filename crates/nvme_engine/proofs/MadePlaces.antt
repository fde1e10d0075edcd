-- A pick whose places are free, and what an admin command makes, leave no more places outstanding than there may be.
use Rattle.std.specs.Prelude.{IsSome}
use Rattle.std.proofs.Common.{◌≡◌, ℕ, ◌+◌, ◌<◌, ◌≤◌, ◌==◌, ◌&&◌, if◌then◌else◌, Bool, true, false, List, [], ◌∷◌, length, map, take, Option, Some, None, refl, sym, ap, ◌∙◌, arith, All}
use Rattle.std.proofs.lemmas.Bool.{le-leb, eq-eqb, eqb-true, false_from_ne_true, true≢false}
use Rattle.std.proofs.lemmas.List.Elements.{All-head, All-tail, All-filter}
use Rattle.nvme_arbiter.specs.declared.pick.Pick.{Pick}
use Rattle.nvme_arbiter.specs.declared.pick.Seen.{Seen}
use Rattle.nvme_admin.specs.declared.verdict.Verdict.{Verdict}
use Rattle.nvme_admin.specs.declared.verdict.Verdict.TheVariants as verdict
use Rattle.nvme_log.specs.declared.event.Event.TheVariants as event
use Rattle.nvme_log.specs.Aborts.{took_abort, is_abort_entry, places_for}
use Rattle.nvme_log.specs.Completions.{is_posted, outstanding}
use Rattle.nvme_log.specs.Effects.{has_cid, abort_in, closing_of, closed_cq_of, made_by, named, target_of}
use Rattle.nvme_log.specs.Histories.{admin_entry}
use Rattle.nvme_log.specs.Limits.{max_outstanding}
use Rattle.nvme_log.specs.Places.{fetched, waiting, entry_at, fate_of, is_waiting, one_if}
use Rattle.nvme_log.specs.Queues.{Queue, admin_queue, open_sq, open_cq}
use Rattle.nvme_log.specs.Rules.{FrontRules, Past, sq_regions_of}
use Rattle.nvme_log.proofs.Waiting.{waiting-abort, waiting-below}
use Rattle.nvme_ctrl_content.specs.Content.{Content}
use Rattle.nvme_ctrl_content.specs.Standing.{Holds, hand_of}
use Rattle.nvme_ctrl_log.proofs.ServedPlaces.{aborts-leave}
use Rattle.nvme_ctrl_log.proofs.AbortCounts.{outstanding-abort, outstanding-oldest}
use Rattle.nvme_ctrl_content.proofs.AdminPick.{other_region, target_region, others_wait, others_fate}
use Rattle.nvme_ctrl_log.proofs.LaterEvents.{with_events}
use Rattle.nvme_ctrl_content.proofs.Counts.{outstanding-pick, region_there}
use Rattle.nvme_ctrl_content.proofs.OpenQueues.{admin_is_open}
use Rattle.nvme_ctrl_log.proofs.AbortsLeave.{waiting_wait}
use Rattle.nvme_ctrl_content.proofs.PostedPlaces.{posted_served, waiting_unposted}
use Rattle.nvme_ctrl_log.proofs.AbortTargets.{target_is}
use Rattle.nvme_engine.specs.Standing.{HasPlaces}

-- ---- a pick
module _ (rules : FrontRules) (late : Bool) (past : Past) (k : Content) (s : Holds rules late past k) (seen : List Seen) (pick : Pick) (queue : Queue)
    (is_open : open_sq past pick.qid ≡ Some queue) (enough : pick.n ≤ length (k.sq queue.region).window) (one : pick.qid ≡ 0 → pick.n ≡ 1)
    (free : outstanding rules past + places_for past pick ≤ max_outstanding) (h : HasPlaces rules past) where
  abbrev mid : Past
  mid = event.Pick seen pick ∷ past

  picks : outstanding rules mid ≡ outstanding rules past + pick.n
  picks = outstanding-pick rules late past k queue seen pick s is_open enough

  -- with one more for an Abort command
  free_then : outstanding rules mid + one_if (took_abort mid) ≤ max_outstanding
  free_then = by (pick.qid == 0) (is_abort_entry (admin_entry past)) refl free where
    by : (b a : Bool) → (pick.qid == 0) ≡ b → outstanding rules past + (if b && a then 2 else pick.n) ≤ max_outstanding → outstanding rules mid + one_if (b && a) ≤ max_outstanding
    by true true is few = let n = one (eqb-true pick.qid 0 is) in omega (arith, picks, few, n)
    by true false is few = omega (arith, picks, few)
    by false a is few = omega (arith, picks, few)

  few_then : outstanding rules mid ≤ max_outstanding
  few_then = omega (arith, free_then)

  pub picked_leaves : HasPlaces rules mid
  picked_leaves = record { each = (le-leb (outstanding rules mid) max_outstanding few_then, h.each); few = few_then }

  -- ---- what an admin command makes
  -- aborts of all that wait, which no Abort command makes
  aborts_leave_places : (r : ℕ) (is : List ℕ) (now : Past) → waiting now r ≡ is → All (λ (i : ℕ). is_posted now r i ≡ false) is → took_abort now ≡ false
      → r < length (sq_regions_of rules) → HasPlaces rules now → HasPlaces rules (with_events (map (λ (i : ℕ). event.Abort r i) is) now)
  aborts_leave_places r [] now e fresh took region has = has
  aborts_leave_places r (i ∷ is) now e fresh took region has =
      let stays = outstanding-oldest rules now r i is e (All-head (λ (j : ℕ). is_posted now r j ≡ false) i is fresh) took region in
      let still : outstanding rules (event.Abort r i ∷ now) ≤ max_outstanding = omega (arith, stays, has.few) in
      aborts_leave_places r is (event.Abort r i ∷ now) (waiting-abort now r i is e) (All-tail (λ (j : ℕ). is_posted now r j ≡ false) i is fresh) took region
      (record { each = (le-leb (outstanding rules (event.Abort r i ∷ now)) max_outstanding still, has.each); few = still })

  module _ (first : pick.qid ≡ 0) where
    some_sqs : 0 < k.nsq
    some_sqs =
        let attached = s.queues.attached pick.qid queue is_open in
        let below = s.queues.sq_there queue.region (record { qid = pick.qid; cq_region = attached.cq_region }) attached.attached in
        omega (arith, below)

    admin : open_sq past pick.qid ≡ Some admin_queue
    admin = ap (open_sq past) first ∙ admin_is_open rules late past k s some_sqs

    -- the closing of a completion queue aborts nothing
    closes : (qid : ℕ) (o : Option ℕ) → HasPlaces rules (with_events (closed_cq_of qid o) mid)
    closes qid None = picked_leaves
    closes qid (Some region) = record { each = (tt, picked_leaves.each); few = picked_leaves.few }

    -- the deletion of a queue, which isn't the admin queue, aborts all that wait
    begins : (qid : ℕ) (o : Option Queue) → open_sq past qid ≡ o → took_abort mid ≡ false → (qid ≡ 0 → ⊥) → HasPlaces rules (with_events (closing_of past qid o) mid)
    begins qid None is took io = picked_leaves
    begins qid (Some q) is took io =
        aborts_leave_places q.region (waiting past q.region) (event.Closing qid q.region ∷ mid)
        (others_wait rules late past k seen pick k.board s admin first q.region (other_region rules late past k seen pick k.board s admin first qid q is io))
        (waiting_unposted past q.region (posted_served past k (hand_of k) s.ready q.region)) took (region_there rules late past k s qid q is)
        (record { each = (tt, picked_leaves.each); few = picked_leaves.few })

    -- the admin queue stays open
    not_admin : (qid : ℕ) (o : Option Queue) → open_sq past qid ≡ o → (later : Bool) (l : Content) → Holds rules later (with_events (closing_of past qid o) mid) l → IsSome o → qid ≡ 0 → ⊥
    not_admin qid None is later l after some zero = cc some
    not_admin qid (Some q) is later l after some zero =
        let there : 0 < l.nsq = omega (arith, some_sqs, s.tabled.sq_number, after.tabled.sq_number) in
        let still = admin_is_open rules later (with_events (closing_of past qid (Some q)) mid) l after there in
        let closed : open_sq (with_events (closing_of past qid (Some q)) mid) 0 ≡ None =
        aborts-leave (λ (p : Past). open_sq p 0) (λ p r i. refl) q.region (waiting past q.region) (event.Closing qid q.region ∷ mid)
        ∙ ap (λ (b : Bool). if b then None else open_sq mid 0) (eq-eqb qid 0 zero) in
        let both : None ≡ Some admin_queue = sym closed ∙ still in
        cc both

    deletes : (qid : ℕ) (o : Option Queue) → open_sq past qid ≡ o → took_abort mid ≡ false → (later : Bool) (l : Content) → Holds rules later (with_events (closing_of past qid o) mid) l
        → HasPlaces rules (with_events (closing_of past qid o) mid)
    deletes qid None is took later l after = picked_leaves
    deletes qid (Some q) is took later l after = begins qid (Some q) is took (not_admin qid (Some q) is later l after refl)

    -- an Abort command aborts one command of a queue, or none
    aborts : (sqid cid : ℕ) (o : Option Queue) → target_of past sqid ≡ o → HasPlaces rules (with_events (abort_in past cid o) mid)
    aborts sqid cid None target = picked_leaves
    aborts sqid cid (Some q) target =
        by (named past q.region cid)
        (All-filter (λ (i : ℕ). has_cid cid (entry_at past q.region i)) (λ (i : ℕ). is_waiting (fate_of past q.region i) ≡ true) (waiting past q.region) (waiting_wait past q.region))
        (All-filter (λ (i : ℕ). has_cid cid (entry_at past q.region i)) (λ (i : ℕ). i < length (fetched past q.region)) (waiting past q.region) (waiting-below past q.region)) where
          by : (is : List ℕ) → All (λ (i : ℕ). is_waiting (fate_of past q.region i) ≡ true) is → All (λ (i : ℕ). i < length (fetched past q.region)) is
              → HasPlaces rules (with_events (map (λ (i : ℕ). event.Abort q.region i) (take 1 is)) mid)
          by [] wait below = picked_leaves
          by (i ∷ is) wait below =
              let waited = All-head (λ (j : ℕ). is_waiting (fate_of past q.region j) ≡ true) i is wait in
              let apart = target_region rules late past k seen pick k.board s admin first sqid q target in
              let more = outstanding-abort rules mid q.region i (ap is_waiting (others_fate rules late past k seen pick k.board s admin first q.region apart i) ∙ waited)
              (All-head (λ (j : ℕ). j < length (fetched past q.region)) i is below)
              (false_from_ne_true (is_posted past q.region i) (λ posted. true≢false (sym waited ∙ posted_served past k (hand_of k) s.ready q.region i posted)))
              (region_there rules late past k s sqid q (target_is past sqid q target).1) in
              let still : outstanding rules (event.Abort q.region i ∷ mid) ≤ max_outstanding = omega (arith, more, free_then) in
              record { each = (le-leb (outstanding rules (event.Abort q.region i ∷ mid)) max_outstanding still, picked_leaves.each); few = still }

    -- what a command of each verdict makes. A Delete is no Abort
    pub made_leave_places : (v : Verdict) → ((qid : ℕ) → v ≡ verdict.BeginDelete qid → took_abort mid ≡ false) → (later : Bool) (l : Content)
        → Holds rules later (with_events (made_by past v) mid) l → HasPlaces rules (with_events (made_by past v) mid)
    made_leave_places (verdict.Done status dw0) no_abort later l after = picked_leaves
    made_leave_places (verdict.OpenSq qid region cqid class) no_abort later l after = record { each = (tt, picked_leaves.each); few = picked_leaves.few }
    made_leave_places (verdict.OpenCq qid region) no_abort later l after = record { each = (tt, picked_leaves.each); few = picked_leaves.few }
    made_leave_places (verdict.CloseCq qid) no_abort later l after = closes qid (open_cq past qid)
    made_leave_places (verdict.SetArbitration settings) no_abort later l after = record { each = (tt, picked_leaves.each); few = picked_leaves.few }
    made_leave_places (verdict.BeginDelete qid) no_abort later l after = deletes qid (open_sq past qid) refl (no_abort qid refl) later l after
    made_leave_places (verdict.Abort sqid cid) no_abort later l after = aborts sqid cid (target_of past sqid) refl
