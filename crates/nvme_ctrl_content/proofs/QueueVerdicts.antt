-- What the verdict of an admin command makes of the queues.
use Rattle.std.proofs.Common.{◌≡◌, ℕ, zero, suc, ◌+◌, ◌≤◌, ◌<◌, ◌==◌, Bool, false, List, [], ◌∷◌, map, length, Option, Some, None, refl, sym, ◌∙◌, ap, subst, arith}
use Rattle.std.proofs.lemmas.Option.{none-some}
use Rattle.std.specs.Prelude.{is_some, slice_get, slice_set, unwrap_or, if◌then◌else◌}
use Rattle.std.proofs.lemmas.Bool.{eqb-false}
use Rattle.nvme_arbiter.specs.Limits.{highest_qid}
use Rattle.nvme_arbiter.specs.Board.{BoardView}
use Rattle.nvme_arbiter.specs.declared.pick.OpenQueue.{OpenQueue}
use Rattle.nvme_arbiter.specs.declared.settings.Class.{Class}
use Rattle.nvme_arbiter.specs.declared.pick.Pick.{Pick}
use Rattle.nvme_arbiter.specs.declared.pick.Seen.{Seen}
use Rattle.nvme_admin.specs.History.{TableHistory, Placing}
use Rattle.nvme_admin.specs.declared.region.Region.{Region}
use Rattle.nvme_admin.specs.Accepted.{queue_table}
use Rattle.nvme_admin.specs.Changes.{IsDue}
use Rattle.nvme_admin.specs.QueueTable.{QueueTable}
use Rattle.nvme_admin.specs.declared.verdict.Verdict.{Verdict}
use Rattle.nvme_admin.specs.declared.verdict.Verdict.TheVariants.{Done, BeginDelete, CloseCq}
use Rattle.nvme_admin.specs.declared.verdict.Verdict.TheVariants as verdict
use Rattle.nvme_admin.proofs.Reached.{or_false-parts}
use Rattle.nvme_admin.proofs.Changed.{TellsChange-entry}
use Rattle.nvme_log.specs.declared.event.Event.{Event}
use Rattle.nvme_log.specs.declared.event.Event.TheVariants as event
use Rattle.nvme_ctrl_content.specs.Content.{Candidate, SqContent, Content, put_sq}
use Rattle.nvme_log.specs.Rules.{FrontRules, Past, sq_regions_of, cq_regions_of}
use Rattle.nvme_log.specs.Queues.{Queue, open_sq, open_cq}
use Rattle.nvme_log.specs.Places.{waiting}
use Rattle.nvme_log.specs.Effects.{abort_in, closing_of, closed_cq_of, made_by, target_of}
use Rattle.nvme_ctrl_content.specs.Standing.{Holds, HoldsSq, counted_on}
use Rattle.nvme_ctrl_content.specs.Steps.{CanApply, HasNextRegion, oldest_named, verdict_at, without_oldest}
use Rattle.nvme_ctrl_content.proofs.AfterSteps.{IsAbortChosen, IsChosen, aborting_from, aborting_in, after_admin, deleting_from}
use Rattle.nvme_ctrl_log.proofs.LaterEvents.{with_events}
use Rattle.nvme_ctrl_content.proofs.Named.{made_abort, made_none}
use Rattle.nvme_log.proofs.UsedRegions.{used_after}
use Rattle.nvme_ctrl_content.proofs.QueueWords.{QueueContent, in_log, in_content, Agree, put-queue}
use Rattle.nvme_ctrl_log.proofs.QueueWords.{at_other}
use Rattle.nvme_ctrl_content.proofs.QueueChanges.{serve, open_one, open_other, close_other, begin_delete}

-- ---- the region of a queue that a command opens
-- a region that is there has a number below theirs
within : (regions : List Region) (r : ℕ) (x : Region) → slice_get regions r ≡ Some x → r < length regions
within [] r x e = absurd (none-some x e)
within (y ∷ regions) zero x e = omega arith
within (y ∷ regions) (suc r) x e = let below = within regions r x e in omega arith

module _ (rules : FrontRules) (late : Bool) (past : Past) (k : Content) (candidate : Candidate) (rest : List Candidate) (table : QueueTable) (s : Holds rules late past k)
    (can : CanApply rules past k s.tabled.history candidate rest table) where
  -- it is one of the regions: where queues lie on regions the command names it, and anywhere the rules have it
  pub opens_there : (qid region cqid : ℕ) (class : Class) → verdict_at rules s.tabled.history candidate ≡ verdict.OpenSq qid region cqid class → region < k.nsq
  opens_there qid region cqid class is = by k.table.placing refl where
    due : IsDue (queue_table rules.start s.tabled.history) (verdict.OpenSq qid region cqid class)
    due = subst (λ (z : Verdict). IsDue (queue_table rules.start s.tabled.history) z) is (TellsChange-entry rules.start s.tabled.history candidate.entry).due

    placed : HasNextRegion rules k.table candidate (verdict.OpenSq qid region cqid class)
    placed = subst (λ (z : Verdict). HasNextRegion rules k.table candidate z) is can.placed

    by : (p : Option Placing) → k.table.placing ≡ p → region < k.nsq
    by None none =
        subst (λ (n : ℕ). region < n) (ap (λ (t : QueueTable). length t.sq_regions) (sym s.tabled.table_is) ∙ s.tabled.sq_count)
        (due.there (ap (λ (t : QueueTable). t.placing) (sym s.tabled.table_is) ∙ none))
    by (Some p) some =
        subst (λ (n : ℕ). region < n) s.tabled.sq_number
        (within (sq_regions_of rules) region _ (placed (ap (λ (o : Option Placing). is_some o) some)))

  pub opens_cq_there : (qid region : ℕ) → verdict_at rules s.tabled.history candidate ≡ verdict.OpenCq qid region → region < k.ncq
  opens_cq_there qid region is = by k.table.placing refl where
    due : IsDue (queue_table rules.start s.tabled.history) (verdict.OpenCq qid region)
    due = subst (λ (z : Verdict). IsDue (queue_table rules.start s.tabled.history) z) is (TellsChange-entry rules.start s.tabled.history candidate.entry).due

    placed : HasNextRegion rules k.table candidate (verdict.OpenCq qid region)
    placed = subst (λ (z : Verdict). HasNextRegion rules k.table candidate z) is can.placed

    by : (p : Option Placing) → k.table.placing ≡ p → region < k.ncq
    by None none =
        subst (λ (n : ℕ). region < n) (ap (λ (t : QueueTable). length t.cq_regions) (sym s.tabled.table_is) ∙ s.tabled.cq_count)
        (due.there (ap (λ (t : QueueTable). t.placing) (sym s.tabled.table_is) ∙ none))
    by (Some p) some =
        subst (λ (n : ℕ). region < n) s.tabled.cq_number
        (within (cq_regions_of rules) region _ (placed (ap (λ (o : Option Placing). is_some o) some)))

-- ---- what agrees after a verdict
-- aborts leave the queues
aborts-agree : (r : ℕ) (is : List ℕ) (past : Past) (k : QueueContent) → Agree (in_log past) k → Agree (in_log (with_events (map (λ (i : ℕ). event.Abort r i) is) past)) k
aborts-agree r [] past k h = h
aborts-agree r (i ∷ is) past k h = aborts-agree r is (event.Abort r i ∷ past) k h

-- a completion queue is closed, where it is open
closes-agree : (qid : ℕ) (o : Option ℕ) (now : Past) (k : QueueContent) → Agree (in_log now) k → Agree (in_log (with_events (closed_cq_of qid o) now)) k
closes-agree qid None now k h = h
closes-agree qid (Some region) now k h = close_other (in_log now) k h qid

-- the deletion of a queue begins, where it is open
deletes-agree : (past now : Past) (k : Content) (candidate : Candidate) (qid c : ℕ) (o : Option Queue) → Agree (in_log now) (in_content k) → open_sq now qid ≡ o
    → ((queue : Queue) → o ≡ Some queue → (k.sq queue.region).queue ≡ Some (record { qid = qid; cq_region = c }))
    → Agree (in_log (with_events (closing_of past qid o) now)) (in_content (deleting_from k qid c candidate o))
deletes-agree past now k candidate qid c None h is opened = h
deletes-agree past now k candidate qid c (Some queue) h is opened =
    aborts-agree queue.region (waiting past queue.region) (event.Closing qid queue.region ∷ now) (in_content (deleting_from k qid c candidate (Some queue)))
    (begin_delete (in_log now) (in_content k) h qid c _ queue _ is (opened queue refl) refl refl)

-- what is given of an admin pick whose verdict is v: `before` is what was kept before it, and k what is kept when its place is picked
pub record Applies (rules : FrontRules) (history : TableHistory) (before k : Content) (v : Verdict) : Type 0 where
  pub due : IsDue (queue_table rules.start history) v
  pub sq_there : (qid region cqid : ℕ) (class : Class) → v ≡ verdict.OpenSq qid region cqid class → region < k.nsq
  pub cq_there : (qid region : ℕ) → v ≡ verdict.OpenCq qid region → region < k.ncq
  pub still : (r : ℕ) → (k.sq r).queue ≡ (before.sq r).queue
  pub unused : (r : ℕ) → (queue_table rules.start history).sq_region_used r ≡ false → (k.sq r).queue ≡ None
  pub few : (qid region cqid : ℕ) (class : Class) → v ≡ verdict.OpenSq qid region cqid class → qid ≤ highest_qid

-- of the queue whose candidates an Abort command may abort: it is open, and the pick of the command left its region
pub record IsTarget (past : Past) (before k : Content) (sqid : ℕ) (queue : Queue) : Type 0 where
  pub is_open : open_sq past sqid ≡ Some queue
  pub left : k.sq queue.region ≡ before.sq queue.region
  pub held : HoldsSq past queue.region (k.sq queue.region)
  pub as_held : k.held queue.region ≡ before.held queue.region
  pub as_classed : k.classed queue.region ≡ before.classed queue.region

-- the queues agree after a verdict, where they do when its place is picked
module _ (rules : FrontRules) (history : TableHistory) (past : Past) (seen : List Seen) (pick : Pick) (before k : Content) (candidate : Candidate) (c : ℕ) (picked board : BoardView) where
  -- a candidate leaves the window of a queue, on the board too
  found-agrees : (queue : Queue) (sqid cid : ℕ) (o : Option Candidate) → oldest_named cid (k.sq queue.region).window ≡ o
      → ((found : Candidate) → o ≡ Some found → IsAbortChosen rules before sqid cid c picked board queue)
      → k.board.queues ≡ picked.queues → IsTarget past before k sqid queue
      → Agree (in_log (event.Pick seen pick ∷ past)) (in_content k)
      → Agree (in_log (with_events (abort_in past cid (Some queue)) (event.Pick seen pick ∷ past))) (in_content (aborting_in k candidate sqid queue.region c cid board o))
  found-agrees queue sqid cid None is chosen same target h =
      subst (λ (es : List Event). Agree (in_log (with_events es (event.Pick seen pick ∷ past))) (in_content k))
      (sym (made_none past cid queue (k.sq queue.region) target.held is)) h
  found-agrees queue sqid cid (Some found) is chosen same target h =
      let s : SqContent = record (k.sq queue.region) { window = without_oldest cid (k.sq queue.region).window; unposted = (k.sq queue.region).unposted + 1 } in
      let choice = chosen found refl in
      let queues : slice_set k.board.queues sqid (Some (counted_on k queue (length s.window))) ≡ board.queues =
      (λ t. slice_set (same t) sqid (Some (record { class = unwrap_or (target.as_classed t) queue.class; count = if target.as_held t then 0 else length (without_oldest cid (target.left t).window) }))) ∙ sym choice.queues in
      subst (λ (es : List Event). Agree (in_log (with_events es (event.Pick seen pick ∷ past))) (in_content (aborting_in k candidate sqid queue.region c cid board (Some found))))
      (sym (made_abort past cid queue (k.sq queue.region) found target.held is))
      (subst (λ (z : List (Option OpenQueue)). Agree (in_log past) (record (in_content k) { sq = put_sq k.sq queue.region s; board = z })) queues
      (serve (in_log past) (in_content k) h sqid queue s target.is_open refl))

  target-agrees : (o : Option Queue) (sqid cid : ℕ)
      → ((queue : Queue) (found : Candidate) → o ≡ Some queue → oldest_named cid (before.sq queue.region).window ≡ Some found → IsAbortChosen rules before sqid cid c picked board queue)
      → k.board.queues ≡ picked.queues → ((queue : Queue) → o ≡ Some queue → IsTarget past before k sqid queue)
      → Agree (in_log (event.Pick seen pick ∷ past)) (in_content k)
      → Agree (in_log (with_events (abort_in past cid o) (event.Pick seen pick ∷ past))) (in_content (aborting_from k candidate sqid c cid board o))
  target-agrees None sqid cid chosen same target h = h
  target-agrees (Some queue) sqid cid chosen same target h =
      let is = target queue refl in
      found-agrees queue sqid cid (oldest_named cid (k.sq queue.region).window) refl
      (λ found e. chosen queue found refl (ap (λ (z : SqContent). oldest_named cid z.window) (sym is.left) ∙ e)) same is h

  pub verdict-agrees : (v : Verdict) → Applies rules history before k v → IsChosen rules past before c picked board v → k.board.queues ≡ picked.queues
      → ((sqid : ℕ) (queue : Queue) → target_of past sqid ≡ Some queue → IsTarget past before k sqid queue)
      → Agree (in_log (event.Pick seen pick ∷ past)) (in_content k)
      → Agree (in_log (with_events (made_by past v) (event.Pick seen pick ∷ past))) (in_content (after_admin past k candidate c board v))
  verdict-agrees (Done status dw0) a chosen same target h = h
  verdict-agrees (verdict.Abort sqid cid) a chosen same target h =
      target-agrees (target_of past sqid) sqid cid chosen same (target sqid) h
  verdict-agrees (verdict.SetArbitration settings) a chosen same target h =
      subst (λ (z : List (Option OpenQueue)). Agree (in_log past) (record (in_content k) { board = z })) (same ∙ sym chosen.0) h
  verdict-agrees (verdict.OpenCq qid region) a chosen same target h =
      open_other (in_log past) (in_content k) h qid region (a.cq_there qid region refl)
  verdict-agrees (CloseCq qid) a chosen same target h = closes-agree qid (open_cq past qid) (event.Pick seen pick ∷ past) (in_content k) h
  verdict-agrees (verdict.OpenSq qid region cqid class) a chosen same target h =
      open_one (in_log past) (in_content k) h qid region cqid c class (a.unused region a.due.unused) chosen
      (a.sq_there qid region cqid class refl) (a.few qid region cqid class refl)
  verdict-agrees (BeginDelete qid) a chosen same target h =
      deletes-agree past (event.Pick seen pick ∷ past) k candidate qid c (open_sq past qid) h refl (λ queue e. a.still queue.region ∙ chosen queue e)

-- ---- the table
-- the begin of a deletion leaves the table
deleting-table : (k : Content) (qid c : ℕ) (candidate : Candidate) (o : Option Queue) → (deleting_from k qid c candidate o).table ≡ k.table
deleting-table k qid c candidate None = refl
deleting-table k qid c candidate (Some queue) = refl

-- and what each region was opened for
deleting-queue : (k : Content) (qid c : ℕ) (candidate : Candidate) (o : Option Queue) (r : ℕ) → ((deleting_from k qid c candidate o).sq r).queue ≡ (k.sq r).queue
deleting-queue k qid c candidate None r = refl
deleting-queue k qid c candidate (Some queue) r = put-queue k.sq queue.region _ refl r

module _ (past : Past) (k : Content) (candidate : Candidate) (c : ℕ) (board : BoardView) where
  -- an Abort command changes no table
  target-table : (sqid cid : ℕ) (o : Option Queue) → (aborting_from k candidate sqid c cid board o).table ≡ k.table
  target-table sqid cid None = refl
  target-table sqid cid (Some queue) = found (oldest_named cid (k.sq queue.region).window) where
    found : (o : Option Candidate) → (aborting_in k candidate sqid queue.region c cid board o).table ≡ k.table
    found None = refl
    found (Some it) = refl

  -- nor what each region was opened for
  target-queue : (sqid cid : ℕ) (o : Option Queue) (r : ℕ) → ((aborting_from k candidate sqid c cid board o).sq r).queue ≡ (k.sq r).queue
  target-queue sqid cid None r = refl
  target-queue sqid cid (Some queue) r = found (oldest_named cid (k.sq queue.region).window) where
    found : (o : Option Candidate) → ((aborting_in k candidate sqid queue.region c cid board o).sq r).queue ≡ (k.sq r).queue
    found None = refl
    found (Some it) = put-queue k.sq queue.region _ refl r

  -- a verdict leaves the table, which its command changed
  pub verdict-table : (v : Verdict) → (after_admin past k candidate c board v).table ≡ k.table
  verdict-table (Done status dw0) = refl
  verdict-table (verdict.Abort sqid cid) = target-table sqid cid (target_of past sqid)
  verdict-table (verdict.SetArbitration settings) = refl
  verdict-table (verdict.OpenCq qid region) = refl
  verdict-table (CloseCq qid) = refl
  verdict-table (verdict.OpenSq qid region cqid class) = refl
  verdict-table (BeginDelete qid) = deleting-table k qid c candidate (open_sq past qid)

  -- a region that isn't used after a verdict was opened for no queue
  pub verdict-unused : (used : ℕ → Bool) → ((r : ℕ) → used r ≡ false → (k.sq r).queue ≡ None)
      → (v : Verdict) (r : ℕ) → used_after v used r ≡ false → ((after_admin past k candidate c board v).sq r).queue ≡ None
  verdict-unused used none (Done status dw0) r e = none r e
  verdict-unused used none (verdict.Abort sqid cid) r e = target-queue sqid cid (target_of past sqid) r ∙ none r e
  verdict-unused used none (verdict.SetArbitration settings) r e = none r e
  verdict-unused used none (verdict.OpenCq qid region) r e = none r e
  verdict-unused used none (CloseCq qid) r e = none r e
  verdict-unused used none (verdict.OpenSq qid region cqid class) r e =
      let parts = or_false-parts (region == r) (used r) e in
      ap (λ (s : SqContent). s.queue) (at_other r region _ (k.sq r) (λ p. eqb-false region r parts.0 (sym p))) ∙ none r parts.1
  verdict-unused used none (BeginDelete qid) r e = deleting-queue k qid c candidate (open_sq past qid) r ∙ none r e
