-- Each step of a controller keeps the queues: those of the log are those of the table, of the board and of the regions.
use Rattle.std.proofs.Common.{◌≡◌, ℕ, ◌+◌, ◌-◌, ◌==◌, Bool, true, false, if◌then◌else◌, List, [], ◌∷◌, filter, length, Option, Some, None, refl, sym, ◌∙◌, ap, subst, arith}
use Rattle.std.specs.Prelude.{option_map, slice_set}
use Rattle.std.proofs.lemmas.List.{length-drop, length-map, length_push, nil_from_length}
use Rattle.nvme_entry.specs.declared.submission.Sqe.{Sqe}
use Rattle.nvme_arbiter.specs.Queues.{fewer, queue_at}
use Rattle.nvme_arbiter.specs.Board.{BoardView, queues_after}
use Rattle.nvme_arbiter.specs.declared.pick.OpenQueue.{OpenQueue}
use Rattle.nvme_arbiter.specs.declared.pick.Pick.{Pick}
use Rattle.nvme_arbiter.specs.declared.pick.Seen.{Seen}
use Rattle.nvme_admin.specs.QueueTable.{QueueTable, unless_closing}
use Rattle.nvme_admin.specs.History.{TableHistory, DeletionFinished, EntryApplied}
use Rattle.nvme_admin.specs.Accepted.{queue_table, sq_at}
use Rattle.nvme_admin.specs.Changes.{TellsChange, sq_after}
use Rattle.nvme_admin.specs.declared.verdict.SqEntry.{SqEntry}
use Rattle.nvme_admin.specs.declared.verdict.Verdict.{Verdict}
use Rattle.nvme_admin.proofs.Changed.{TellsChange-entry, finish-takes_one}
use Rattle.nvme_log.specs.declared.event.Event.TheVariants as event
use Rattle.nvme_ctrl_content.specs.Content.{Candidate, SqContent, Content, put_sq}
use Rattle.nvme_log.specs.Rules.{FrontRules, Past, upto}
use Rattle.nvme_log.specs.Queues.{Queue, admin_queue, open_sq, open_cq}
use Rattle.nvme_log.specs.Places.{waiting, is_waiting, fate_of}
use Rattle.nvme_log.specs.Laws.{as_open, QueuesAre}
use Rattle.nvme_ctrl_content.specs.Standing.{HoldsSq, HoldsQueues, IsPending, IsOpenedFor, IsUnopened, Holds, counted_on}
use Rattle.nvme_log.specs.Effects.{made_by}
use Rattle.nvme_log.proofs.Tables.{as_open-unless_closing, finished_cq, step, events_sq, events_cq}
use Rattle.nvme_log.proofs.UsedRegions.{used-entry, used-finished}
use Rattle.nvme_ctrl_content.specs.Steps.{picked_sq, after_pick, applied_to, verdict_at}
use Rattle.nvme_ctrl_content.proofs.AfterSteps.{fetched_sq, after_admin}
use Rattle.nvme_ctrl_log.proofs.LaterEvents.{with_events}
use Rattle.nvme_ctrl_content.proofs.StepKeeps.{Queues, KeepsFetch, KeepsIo, KeepsAdmin, KeepsPost, KeepsClose}
use Rattle.nvme_ctrl_content.proofs.QueueWords.{in_log, in_content, counted, OpenedFor, Agree, put-queue}
use Rattle.nvme_ctrl_log.proofs.QueueWords.{at_same}
use Rattle.nvme_ctrl_content.proofs.DeletedQueues.{closing_not_open}
use Rattle.nvme_ctrl_log.proofs.AbortTargets.{target_is}
use Rattle.nvme_ctrl_content.proofs.Regions.{target_left}
use Rattle.nvme_ctrl_content.proofs.QueueVerdicts.{opens_there, opens_cq_there, verdict-agrees, verdict-table, verdict-unused}
use Rattle.nvme_ctrl_content.proofs.QueueChanges.{serve, post, finish}

-- ---- the queues without the table, and with it
-- a region with no fetch has no candidate
none_waits : (past : Past) (r : ℕ) (s : SqContent) → HoldsSq past r s → s.got ≡ [] → s.window ≡ []
none_waits past r s h e =
    let none : waiting past r ≡ [] = ap (λ (es : List Sqe). filter (λ (i : ℕ). is_waiting (fate_of past r i)) (upto (length es))) (h.fetched_is ∙ e) in
    nil_from_length s.window (sym (length-map s.window (λ (c : Candidate). c.index)) ∙ ap length (sym h.waiting_is ∙ none))

-- the queues of what stands agree
pub agreement : (rules : FrontRules) (late : Bool) (past : Past) (k : Content) → Holds rules late past k → Agree (in_log past) (in_content k)
agreement rules late past k s =
    let h : HoldsQueues past k = s.queues in
    record {
      board = h.board;
      board_size = h.board_size;
      few = h.few;
      cq_there = h.cq_there;
      qid_is = h.qid_is;
      cq_region_is = h.cq_region_is;
      attached = λ q queue e. let a = h.attached q queue e in record { cq_region = a.cq_region; opened = a.attached };
      sq_there = h.sq_there;
      posts_there = h.posts_there;
      unopened = λ r e.
          let u : IsUnopened past r (k.sq r) = h.unopened r e in
          record { nothing_got = u.nothing_got; none_waits = none_waits past r (k.sq r) (s.regions r) u.nothing_got; not_closed = u.not_closed };
      gone = h.gone;
      closed = h.closed;
      deleting = h.deleting;
    }

-- queues that agree are held, where they are those of the table
pub holds_queues : (past : Past) (k : Content) → Agree (in_log past) (in_content k)
    → ((q : ℕ) → open_sq past q ≡ as_open (k.table.sq q))
    → ((q : ℕ) → open_cq past q ≡ k.table.cq q)
    → ((r : ℕ) → k.table.sq_region_used r ≡ false → (k.sq r).queue ≡ None)
    → HoldsQueues past k
holds_queues past k h sqs cqs unused = record {
  sqs = sqs;
  cqs = cqs;
  board = h.board;
  board_size = h.board_size;
  few = h.few;
  cq_there = h.cq_there;
  qid_is = h.qid_is;
  cq_region_is = h.cq_region_is;
  attached = λ q queue e. let a : OpenedFor (k.sq queue.region) q = h.attached q queue e in record { cq_region = a.cq_region; attached = a.opened };
  sq_there = h.sq_there;
  posts_there = h.posts_there;
  unused = unused;
  unopened = λ r e. let u = h.unopened r e in record { nothing_got = u.nothing_got; not_closed = u.not_closed };
  gone = h.gone;
  closed = h.closed;
  deleting = h.deleting;
}

-- ---- the steps that leave the table
-- a count that is less by some, of a queue that is held or not
fewer_on : (b : Bool) (n m : ℕ) → (if b then 0 else m) - n ≡ (if b then 0 else m - n)
fewer_on true n m = omega arith
fewer_on false n m = refl

-- a pick takes the oldest candidates of an open queue
pub pick-agrees : (past : Past) (k : Content) (queue : Queue) (seen : List Seen) (pick : Pick) (board : BoardView) → Agree (in_log past) (in_content k)
    → open_sq past pick.qid ≡ Some queue → board.queues ≡ queues_after k.board.queues pick
    → Agree (in_log (event.Pick seen pick ∷ past)) (in_content (after_pick k queue pick.n board))
pick-agrees past k queue seen pick board h is after =
    let s : SqContent = picked_sq (k.sq queue.region) pick.n in
    let was : queue_at k.board.queues pick.qid ≡ Some (counted k.held k.classed k.sq queue) = h.board pick.qid ∙ ap (option_map (counted k.held k.classed k.sq)) is in
    let now : board.queues ≡ slice_set k.board.queues pick.qid (Some (counted_on k queue (length s.window))) =
    after ∙ ap (λ (o : Option OpenQueue). slice_set k.board.queues pick.qid (option_map (fewer pick.n) o)) was
    ∙ ap (λ (n : ℕ). slice_set k.board.queues pick.qid (Some (record (counted_on k queue 0) { count = n }))) (fewer_on (k.held queue.region) pick.n (length (k.sq queue.region).window))
    ∙ ap (λ (n : ℕ). slice_set k.board.queues pick.qid (Some (counted_on k queue n))) (sym (length-drop pick.n (k.sq queue.region).window)) in
    subst (λ (z : List (Option OpenQueue)). Agree (in_log past) (record (in_content k) { sq = put_sq k.sq queue.region s; board = z })) (sym now)
    (serve (in_log past) (in_content k) h pick.qid queue s is refl)

-- a fetch brings a candidate to an open queue
pub queues-fetch : KeepsFetch Queues
queues-fetch rules late past k q queue entry s can _ =
    let h : HoldsQueues past k = s.queues in
    let a : Agree (in_log past) (in_content k) = agreement rules late past k s in
    let x : SqContent = fetched_sq (k.sq queue.region) entry in
    let later : Agree (in_log past) (record (in_content k) { sq = put_sq k.sq queue.region x; board = slice_set k.board.queues q (Some (counted_on k queue (length (k.sq queue.region).window + 1))) }) =
    subst (λ (n : ℕ). Agree (in_log past) (record (in_content k) { sq = put_sq k.sq queue.region x; board = slice_set k.board.queues q (Some (counted_on k queue n)) }))
    (length_push (k.sq queue.region).window _)
    (serve (in_log past) (in_content k) a q queue x can.is_open refl) in
    holds_queues _ _ later h.sqs h.cqs (λ r e. put-queue k.sq queue.region x refl r ∙ h.unused r e)

-- an I/O pick leaves the table
pub queues-io : KeepsIo Queues
queues-io rules late past k queue seen pick board c s can observed io attached _ =
    let h : HoldsQueues past k = s.queues in
    holds_queues _ _ (pick-agrees past k queue seen pick board (agreement rules late past k s) can.is_open can.board_queues) h.sqs h.cqs
    (λ r e. put-queue k.sq queue.region (picked_sq (k.sq queue.region) pick.n) refl r ∙ h.unused r e)

-- a post leaves the table
pub queues-post : KeepsPost Queues
queues-post rules late past k c t rest cqe s can _ =
    let h : HoldsQueues past k = s.queues in
    holds_queues _ _ (post (in_log past) (in_content k) (agreement rules late past k s) t.place.region t.sqid (record { cq_region = c; opened = can.attached })) h.sqs h.cqs
    (λ r e. put-queue k.sq t.place.region _ refl r ∙ h.unused r e)

-- ---- the end of a deletion
-- the end of a deletion takes away a queue that was closing
taken : (b : Bool) (o : Option SqEntry) → as_open o ≡ as_open (if b then unless_closing o else o)
taken true o = sym (as_open-unless_closing o)
taken false o = refl

-- the end of a deletion closes the region of its queue, and the table loses the queue
pub queues-close : KeepsClose Queues
queues-close rules late past k d table s can _ =
    let h : HoldsQueues past k = s.queues in
    let p : IsPending past k d.region d = s.deletion.stands d.region d can.pending in
    let o : IsOpenedFor k.sq d = h.deleting d.region d can.pending in
    let t : TableHistory = s.tabled.history in
    let was : k.table ≡ queue_table rules.start t = s.tabled.table_is in
    let now : table ≡ queue_table rules.start (DeletionFinished d.qid ∷ t) = can.table_is in
    let none : open_sq past d.qid ≡ None = h.sqs d.qid ∙ ap as_open p.in_table ∙ closing_not_open p.closing p.is_closing in
    holds_queues _ _
    (finish (in_log past) (in_content k) (agreement rules late past k s) o.cq_region d o.opened none (record { all_posted = can.all_posted; none_waits = p.none_waits }))
    (λ q. h.sqs q ∙ ap as_open (ap (λ (x : QueueTable). x.sq q) was) ∙ taken (d.qid == q) (sq_at rules.start t q) ∙ ap as_open (sym (finish-takes_one rules.start t d.qid q)) ∙ ap as_open (sym (ap (λ (x : QueueTable). x.sq q) now)))
    (λ q. h.cqs q ∙ ap (λ (x : QueueTable). x.cq q) was ∙ finished_cq rules t d.qid q ∙ sym (ap (λ (x : QueueTable). x.cq q) now))
    (λ r e. h.unused r (ap (λ (x : QueueTable). x.sq_region_used r) was ∙ sym (used-finished rules.start t d.qid r) ∙ sym (ap (λ (x : QueueTable). x.sq_region_used r) now) ∙ e))

-- ---- an admin pick
-- an admin pick takes the admin queue's oldest candidate, and its verdict changes the queues as it changes the table
pub queues-admin : KeepsAdmin Queues
queues-admin rules late past k seen pick picked candidate rest table c board s can observed zero one apply chosen _ =
    let h : HoldsQueues past k = s.queues in
    let t : TableHistory = s.tabled.history in
    let u : TableHistory = EntryApplied candidate.entry ∷ t in
    let v : Verdict = verdict_at rules t candidate in
    let tells : TellsChange rules.start t candidate.entry v = TellsChange-entry rules.start t candidate.entry in
    let was : k.table ≡ queue_table rules.start t = s.tabled.table_is in
    let now : table ≡ queue_table rules.start u = apply.table_is in
    let kept : Content = applied_to k picked table in
    let taken : Past = event.Pick seen pick ∷ past in
    let later : Content = after_admin past kept candidate c board v in
    let still : (r : ℕ) → (kept.sq r).queue ≡ (k.sq r).queue = put-queue k.sq 0 (picked_sq (k.sq 0) 1) refl in
    let table_is : later.table ≡ table = verdict-table past kept candidate c board v in
    let agrees : Agree (in_log taken) (in_content kept) =
    subst (λ (n : ℕ). Agree (in_log past) (in_content (after_pick k admin_queue n picked))) one
    (pick-agrees past k admin_queue seen pick picked (agreement rules late past k s) can.is_open can.board_queues) in
    let are : QueuesAre rules u (with_events (made_by past v) past) =
    step rules t u past v (record { sq = λ q. h.sqs q ∙ ap as_open (ap (λ (x : QueueTable). x.sq q) was); cq = λ q. h.cqs q ∙ ap (λ (x : QueueTable). x.cq q) was }) tells.sqs tells.cqs in
    holds_queues (with_events (made_by past v) taken) later
    (verdict-agrees rules t past seen pick k kept candidate c picked board v (record {
      due = tells.due;
      sq_there = λ qid region cqid class e. opens_there rules late past k candidate rest table s apply qid region cqid class e;
      cq_there = λ qid region e. opens_cq_there rules late past k candidate rest table s apply qid region e;
      still = still;
      unused = λ r e. still r ∙ h.unused r (ap (λ (x : QueueTable). x.sq_region_used r) was ∙ e);
      few = λ qid region cqid class e. apply.few_queues qid _
          (ap (λ (x : QueueTable). x.sq qid) now ∙ tells.sqs qid ∙ ap (λ (w : Verdict). sq_after w (sq_at rules.start t) qid) e ∙ at_same qid qid _ _ refl);
    }) chosen refl (λ sqid queue e.
    let admin : open_sq past 0 ≡ Some admin_queue = subst (λ (q : ℕ). open_sq past q ≡ Some admin_queue) zero can.is_open in
    let left : kept.sq queue.region ≡ k.sq queue.region = target_left past k h admin sqid queue e (picked_sq (k.sq 0) 1) in
    record {
      is_open = (target_is past sqid queue e).1;
      left = left;
      held = subst (λ (z : SqContent). HoldsSq past queue.region z) (sym left) (s.regions queue.region);
      as_held = refl;
      as_classed = refl;
    }) agrees)
    (λ q. events_sq rules (made_by past v) taken past (λ p. refl) q ∙ are.sq q ∙ ap as_open (sym (ap (λ (x : QueueTable). x.sq q) now)) ∙ ap (λ (w : QueueTable). as_open (w.sq q)) (sym table_is))
    (λ q. events_cq rules (made_by past v) taken past (λ p. refl) q ∙ are.cq q ∙ sym (ap (λ (x : QueueTable). x.cq q) now) ∙ ap (λ (w : QueueTable). w.cq q) (sym table_is))
    (λ r e. verdict-unused past kept candidate c board (queue_table rules.start t).sq_region_used (λ x f. still x ∙ h.unused x (ap (λ (w : QueueTable). w.sq_region_used x) was ∙ f)) v r
    (sym (used-entry rules.start t candidate.entry r) ∙ sym (ap (λ (x : QueueTable). x.sq_region_used r) now) ∙ ap (λ (w : QueueTable). w.sq_region_used r) (sym table_is) ∙ e))
