-- The steps of a controller keep its table at the table history of the log.
use Rattle.std.proofs.Common.{inl, inr, ◌≡◌, ℕ, ◌+◌, ◌-◌, ◌==◌, Bool, true, false, List, [], ◌∷◌, ◌++◌, map, length, Option, Some, None, refl, sym, ap, subst, ◌∙◌, eq-eqb, eqb-true, take}
use Rattle.std.specs.Prelude.{if◌then◌else◌, is_some}
use Rattle.std.proofs.lemmas.Option.{none-some}
use Rattle.std.proofs.lemmas.Bool.{ne_eqb, cond-true, cond-false}
use Rattle.nvme_arbiter.specs.Board.{BoardView}
use Rattle.nvme_entry.specs.declared.admin.AdminCommand.{AdminCommand}
use Rattle.nvme_entry.specs.declared.submission.Sqe.{Sqe}
use Rattle.nvme_admin.proofs.Changed.{finish-takes_one}
use Rattle.nvme_admin.specs.History.{Start, Placing, TableHistory, EntryApplied, DeletionFinished, Effects, Accepted}
use Rattle.nvme_admin.specs.QueueTable.{QueueTable, sq_regions_in, cq_regions_in, placing_in, unless_closing, table_in}
use Rattle.nvme_admin.specs.Checks.{status_over, is_success}
use Rattle.nvme_admin.specs.Accepted.{effects_of, queue_table, sq_at}
use Rattle.nvme_admin.specs.declared.verdict.SqEntry.{SqEntry}
use Rattle.nvme_entry.specs.AdminCommand.{admin_command_of}
use Rattle.nvme_admin.specs.declared.verdict.Verdict.{Verdict}
use Rattle.nvme_admin.specs.declared.verdict.Verdict.TheVariants.{Done, BeginDelete, CloseCq}
use Rattle.nvme_admin.specs.declared.verdict.Verdict.TheVariants as verdict
use Rattle.nvme_ctrl_content.specs.Content.{Candidate, Ready, SqContent, CqContent, Content, with_sq, with_cq, with_ready}
use Rattle.nvme_log.specs.declared.event.Event.TheVariants.{Abort}
use Rattle.nvme_log.specs.declared.event.Event.TheVariants as event
use Rattle.nvme_log.specs.Rules.{FrontRules, Past}
use Rattle.nvme_log.specs.Queues.{Queue, admin_queue, open_sq, open_cq}
use Rattle.nvme_log.specs.Places.{waiting}
use Rattle.nvme_log.specs.Histories.{table_history, admin_entry, applied}
use Rattle.nvme_log.specs.Effects.{closed_cq_of, closing_of, made_by, abort_in, named, target_of}
use Rattle.nvme_ctrl_content.specs.Standing.{FewQueues, HoldsTable}
use Rattle.nvme_ctrl_log.proofs.Handing.{table_stays}
use Rattle.nvme_ctrl_content.proofs.Oldest.{admin_entry_is}
use Rattle.nvme_ctrl_content.specs.Steps.{applied_to, aborted, verdict_at, after_pick, picked_sq, oldest_named, requested, without_oldest}
use Rattle.nvme_ctrl_content.specs.Carrying.{opening_cq}
use Rattle.nvme_ctrl_content.proofs.AfterSteps.{closing_sq, closing_from, with_readies, admin_past, after_admin, deleting_from, with_opened, with_deleting, after_io, after_post, after_closed, posted_cq, post_event, closed_event, aborting_from, aborting_in, with_requested}
use Rattle.nvme_ctrl_log.proofs.LaterEvents.{with_events}
use Rattle.nvme_ctrl_content.proofs.StepKeeps.{KeepsFetch, KeepsIo, KeepsAdmin, KeepsPost, KeepsClose, Tabled}
use Rattle.nvme_ctrl_log.proofs.HandedPicks.{IsHanded}

-- ---- the regions
-- a submission region put in the place of one, with as many slots, leaves each number of slots
put_sq_slots : (sq : ℕ → SqContent) (r : ℕ) (s : SqContent) → s.slots ≡ (sq r).slots → (x : ℕ) (b : Bool) → (x == r) ≡ b → (if b then s else sq x).slots ≡ (sq x).slots
put_sq_slots sq r s same x true e = same ∙ ap (λ (y : ℕ). (sq y).slots) (sym (eqb-true x r e))
put_sq_slots sq r s same x false e = refl

-- and so does a completion region
put_cq_slots : (cq : ℕ → CqContent) (c : ℕ) (s : CqContent) → s.slots ≡ (cq c).slots → (x : ℕ) (b : Bool) → (x == c) ≡ b → (if b then s else cq x).slots ≡ (cq x).slots
put_cq_slots cq c s same x true e = same ∙ ap (λ (y : ℕ). (cq y).slots) (sym (eqb-true x c e))
put_cq_slots cq c s same x false e = refl

-- what is kept afterwards has the same regions, with as many slots
record LeavesRegions (k after : Content) : Type 0 where
  nsq : after.nsq ≡ k.nsq
  ncq : after.ncq ≡ k.ncq
  sq : (r : ℕ) → (after.sq r).slots ≡ (k.sq r).slots
  cq : (c : ℕ) → (after.cq c).slots ≡ (k.cq c).slots

-- where no region is put, the regions are left
leaves_none : (k after : Content) → after.nsq ≡ k.nsq → after.ncq ≡ k.ncq → after.sq ≡ k.sq → after.cq ≡ k.cq → LeavesRegions k after
leaves_none k after nsq ncq sq cq = record {
  nsq = nsq;
  ncq = ncq;
  sq = λ r. ap (λ (f : ℕ → SqContent). (f r).slots) sq;
  cq = λ c. ap (λ (f : ℕ → CqContent). (f c).slots) cq;
}

-- one change after another
leaves_both : (k between after : Content) → LeavesRegions k between → LeavesRegions between after → LeavesRegions k after
leaves_both k between after a b = record {
  nsq = b.nsq ∙ a.nsq;
  ncq = b.ncq ∙ a.ncq;
  sq = λ r. b.sq r ∙ a.sq r;
  cq = λ c. b.cq c ∙ a.cq c;
}

-- a submission region is put, with as many slots
leaves_sq : (k : Content) (r : ℕ) (s : SqContent) → s.slots ≡ (k.sq r).slots → LeavesRegions k (with_sq k r s)
leaves_sq k r s same = record { nsq = refl; ncq = refl; sq = λ x. put_sq_slots k.sq r s same x (x == r) refl; cq = λ x. refl }

-- a completion region is put, with as many slots
leaves_cq : (k : Content) (c : ℕ) (s : CqContent) → s.slots ≡ (k.cq c).slots → LeavesRegions k (with_cq k c s)
leaves_cq k c s same = record { nsq = refl; ncq = refl; sq = λ x. refl; cq = λ x. put_cq_slots k.cq c s same x (x == c) refl }

-- an accepted command adds no region
accepted-regions : (b : Bool) (command : AdminCommand) (e : Effects)
    → (sq_regions_in (if b then Accepted command ∷ e else e) ≡ sq_regions_in e) × (cq_regions_in (if b then Accepted command ∷ e else e) ≡ cq_regions_in e)
accepted-regions true command e = (refl, refl)
accepted-regions false command e = (refl, refl)

-- an admin entry leaves the submission regions of the table
pub entry-sq_regions : (start : Start) (h : TableHistory) (entry : Sqe) → (queue_table start (EntryApplied entry ∷ h)).sq_regions ≡ (queue_table start h).sq_regions
unfolding effects_of queue_table
entry-sq_regions start h entry =
    (accepted-regions (is_success (status_over (table_in start (effects_of start h)) entry)) (admin_command_of entry) (effects_of start h)).0

-- and the completion regions
pub entry-cq_regions : (start : Start) (h : TableHistory) (entry : Sqe) → (queue_table start (EntryApplied entry ∷ h)).cq_regions ≡ (queue_table start h).cq_regions
unfolding effects_of queue_table
entry-cq_regions start h entry =
    (accepted-regions (is_success (status_over (table_in start (effects_of start h)) entry)) (admin_command_of entry) (effects_of start h)).1

-- the end of a deletion leaves the submission regions of the table
pub finish-sq_regions : (start : Start) (h : TableHistory) (qid : ℕ) → (queue_table start (DeletionFinished qid ∷ h)).sq_regions ≡ (queue_table start h).sq_regions
unfolding effects_of queue_table
finish-sq_regions start h qid = refl

-- and the completion regions
pub finish-cq_regions : (start : Start) (h : TableHistory) (qid : ℕ) → (queue_table start (DeletionFinished qid ∷ h)).cq_regions ≡ (queue_table start h).cq_regions
unfolding effects_of queue_table
finish-cq_regions start h qid = refl

-- neither changes where queues may lie
accepted-placing : (b : Bool) (command : AdminCommand) (e : Effects) → placing_in (if b then Accepted command ∷ e else e) ≡ placing_in e
accepted-placing true command e = refl
accepted-placing false command e = refl

pub entry-placing : (start : Start) (h : TableHistory) (entry : Sqe) → (queue_table start (EntryApplied entry ∷ h)).placing ≡ (queue_table start h).placing
unfolding effects_of queue_table
entry-placing start h entry = accepted-placing (is_success (status_over (table_in start (effects_of start h)) entry)) (admin_command_of entry) (effects_of start h)

pub finish-placing : (start : Start) (h : TableHistory) (qid : ℕ) → (queue_table start (DeletionFinished qid ∷ h)).placing ≡ (queue_table start h).placing
unfolding effects_of queue_table
finish-placing start h qid = refl

-- a queue that the end of a deletion leaves was there before
was_there : (b : Bool) (o : Option SqEntry) (entry : SqEntry) → (if b then unless_closing o else o) ≡ Some entry → (e : SqEntry) × (o ≡ Some e)
was_there false o entry is = (entry, is)
was_there true None entry is = absurd (none-some entry is)
was_there true (Some e) entry is = (e, refl)

-- ---- what is kept of the table
-- where the regions are left, the table stands at its new history
held : (rules : FrontRules) (late : Bool) (past later : Past) (k after : Content) → HoldsTable rules late past k → LeavesRegions k after
    → after.table.sq_regions ≡ k.table.sq_regions → after.table.cq_regions ≡ k.table.cq_regions
    → (h : TableHistory) → after.table ≡ queue_table rules.start h → FewQueues after.table → after.table.placing ≡ k.table.placing
    → (late ≡ false → h ≡ table_history rules later) → HoldsTable rules late later after
held rules late past later k after t l sqs cqs h table few same_placing is = record {
  history = h;
  table_is = table;
  few_queues = few;
  placing = same_placing ∙ t.placing;
  in_time = λ e. t.in_time (ap (λ (o : Option Placing). is_some o) (sym same_placing) ∙ e);
  history_is = is;
  sq_count = ap length sqs ∙ t.sq_count ∙ sym l.nsq;
  cq_count = ap length cqs ∙ t.cq_count ∙ sym l.ncq;
  sq_number = t.sq_number ∙ sym l.nsq;
  cq_number = t.cq_number ∙ sym l.ncq;
  sq_slots = λ r. t.sq_slots r ∙ sym (l.sq r);
  cq_slots = λ c. t.cq_slots c ∙ sym (l.cq c);
  sq_regions_are = sqs ∙ t.sq_regions_are;
  cq_regions_are = cqs ∙ t.cq_regions_are;
}

-- a fetch leaves the table
pub tabled-fetch : KeepsFetch Tabled
tabled-fetch rules late past k q queue entry s can =
    held rules late past _ k _ s.tabled (leaves_both k _ _ (leaves_sq k queue.region _ refl) (leaves_none _ _ refl refl refl refl)) refl refl s.tabled.history s.tabled.table_is s.tabled.few_queues refl s.tabled.history_is

-- a pick leaves the regions
leaves_pick : (k : Content) (queue : Queue) (n : ℕ) (board : BoardView) → LeavesRegions k (after_pick k queue n board)
leaves_pick k queue n board =
    leaves_both k (with_sq k queue.region (picked_sq (k.sq queue.region) n)) (after_pick k queue n board) (leaves_sq k queue.region (picked_sq (k.sq queue.region) n) refl)
    (leaves_none (with_sq k queue.region (picked_sq (k.sq queue.region) n)) (after_pick k queue n board) refl refl refl refl)

-- an I/O pick leaves the table
pub tabled-io : KeepsIo Tabled
tabled-io rules late past k queue seen pick board c s can seen_is io attached =
    held rules late past (event.Pick seen pick ∷ past) k (after_io k queue pick.n board) s.tabled
    (leaves_both k (after_pick k queue pick.n board) (after_io k queue pick.n board) (leaves_pick k queue pick.n board)
    (leaves_none (after_pick k queue pick.n board) (after_io k queue pick.n board) refl refl refl refl))
    refl refl (handed_history io).0 (handed_history io).1.0 s.tabled.few_queues refl (handed_history io).1.1
  where
    -- its history, at which the table stands
    handed_history : IsHanded past pick → (h : TableHistory) × ((k.table ≡ queue_table rules.start h) × (late ≡ false → h ≡ table_history rules (event.Pick seen pick ∷ past)))
    handed_history (inl other) = (
      s.tabled.history,
      (
        s.tabled.table_is,
        λ e. s.tabled.history_is e ∙ sym (cond-false (pick.qid == 0) (applied (admin_entry past) ++ table_history rules past) (table_history rules past) (ne_eqb pick.qid 0 other)),
      ),
    )
    handed_history (inr p) = (
      EntryApplied p.entry ∷ s.tabled.history,
      (
        s.tabled.table_is ∙ sym (table_stays rules.start s.tabled.history past p.entry p.may_be),
        λ e. ap (λ (h : TableHistory). EntryApplied p.entry ∷ h) (s.tabled.history_is e)
            ∙ sym (cond-true (pick.qid == 0) (applied (admin_entry past) ++ table_history rules past) (table_history rules past) (eq-eqb pick.qid 0 p.of_admin)
            ∙ ap (λ (o : Option Sqe). applied o ++ table_history rules past) p.next),
      ),
    )

-- a post leaves the table
pub tabled-post : KeepsPost Tabled
tabled-post rules late past k c t rest cqe s can =
    let one : Content = with_sq k t.place.region (record (k.sq t.place.region) { unposted = (k.sq t.place.region).unposted - 1 }) in
    let two : Content = with_cq one c (posted_cq (k.cq c) rest cqe) in
    held rules late past (post_event c t cqe ∷ past) k (after_post k c t rest cqe) s.tabled
    (leaves_both k one (after_post k c t rest cqe) (leaves_sq k t.place.region _ refl)
    (leaves_both one two (after_post k c t rest cqe) (leaves_cq one c _ refl) (leaves_none two (after_post k c t rest cqe) refl refl refl refl)))
    refl refl s.tabled.history s.tabled.table_is s.tabled.few_queues refl s.tabled.history_is

-- the end of a deletion is a step of the table history
pub tabled-close : KeepsClose Tabled
tabled-close rules late past k d table s can =
    let one : Content = closing_sq k d table in
    held rules late past (closed_event d ∷ past) k (after_closed k d table) s.tabled
    (leaves_both k one (after_closed k d table) (leaves_none k one refl refl refl refl) (leaves_cq one 0 _ refl))
    (ap (λ (t : QueueTable). t.sq_regions) can.table_is ∙ finish-sq_regions rules.start s.tabled.history d.qid ∙ sym (ap (λ (t : QueueTable). t.sq_regions) s.tabled.table_is))
    (ap (λ (t : QueueTable). t.cq_regions) can.table_is ∙ finish-cq_regions rules.start s.tabled.history d.qid ∙ sym (ap (λ (t : QueueTable). t.cq_regions) s.tabled.table_is))
    (DeletionFinished d.qid ∷ s.tabled.history) can.table_is few
    (ap (λ (t : QueueTable). t.placing) can.table_is ∙ finish-placing rules.start s.tabled.history d.qid ∙ sym (ap (λ (t : QueueTable). t.placing) s.tabled.table_is))
    (λ e. ap (λ (h : TableHistory). DeletionFinished d.qid ∷ h) (s.tabled.history_is e))
  where
    -- its queues are those that it had
    few : FewQueues table
    few q entry is =
        let before = was_there (d.qid == q) (sq_at rules.start s.tabled.history q) entry
        (sym (finish-takes_one rules.start s.tabled.history d.qid q) ∙ sym (ap (λ (t : QueueTable). t.sq q) can.table_is) ∙ is) in
        s.tabled.few_queues q before.0 (ap (λ (t : QueueTable). t.sq q) s.tabled.table_is ∙ before.1)

-- ---- an admin pick
-- a ready completion more leaves the regions
leaves_ready : (k : Content) (c : ℕ) (t : Ready) → LeavesRegions k (with_ready k c t)
leaves_ready k c t = leaves_cq k c _ refl

-- what a verdict makes leaves the regions
leaves_verdict : (past : Past) (k : Content) (candidate : Candidate) (c : ℕ) (board : BoardView) (v : Verdict) → LeavesRegions k (after_admin past k candidate c board v)
leaves_verdict past k candidate c board (Done status dw0) = leaves_ready k 0 _
leaves_verdict past k candidate c board (verdict.OpenSq qid region cqid class) =
    let one : Content = with_sq k region (record (k.sq region) { queue = Some (record { qid = qid; cq_region = c }) }) in
    let two : Content = with_opened k qid region c class in
    leaves_both k two _ (leaves_both k one two (leaves_sq k region _ refl) (leaves_none one two refl refl refl refl)) (leaves_ready two 0 _)
leaves_verdict past k candidate c board (verdict.OpenCq qid region) =
    let one : Content = opening_cq k qid region in
    leaves_both k one _ (leaves_none k one refl refl refl refl) (leaves_ready one 0 _)
leaves_verdict past k candidate c board (CloseCq qid) =
    let one : Content = closing_from k qid (open_cq past qid) in
    leaves_both k one _ (leaves_none k one refl refl refl refl) (leaves_ready one 0 _)
leaves_verdict past k candidate c board (verdict.SetArbitration settings) =
    let one : Content = record k { board = board } in
    leaves_both k one _ (leaves_none k one refl refl refl refl) (leaves_ready one 0 _)
leaves_verdict past k candidate c board (verdict.Abort sqid cid) = by_target (target_of past sqid) where
  by_found : (queue : Queue) (o : Option Candidate) → LeavesRegions k (aborting_in k candidate sqid queue.region c cid board o)
  by_found queue None = leaves_ready k 0 _
  by_found queue (Some found) =
      let one : Content = with_sq k queue.region (record (k.sq queue.region) { window = without_oldest cid (k.sq queue.region).window; unposted = (k.sq queue.region).unposted + 1 }) in
      let two : Content = with_ready one c (requested sqid queue.region found) in
      let three : Content = with_requested k sqid queue.region c cid board found in
      leaves_both k three _
      (leaves_both k one three (leaves_sq k queue.region _ refl) (leaves_both one two three (leaves_ready one c _) (leaves_none two three refl refl refl refl)))
      (leaves_ready three 0 _)

  by_target : (o : Option Queue) → LeavesRegions k (aborting_from k candidate sqid c cid board o)
  by_target None = leaves_ready k 0 _
  by_target (Some queue) = by_found queue (oldest_named cid (k.sq queue.region).window)
leaves_verdict past k candidate c board (BeginDelete qid) = by_sq (open_sq past qid) where
  by_sq : (o : Option Queue) → LeavesRegions k (deleting_from k qid c candidate o)
  by_sq None = leaves_ready k 0 _
  by_sq (Some queue) =
      let one : Content = with_sq k queue.region (record (k.sq queue.region) { window = []; unposted = (k.sq queue.region).unposted + length (k.sq queue.region).window }) in
      let two : Content = with_readies one c (map (aborted qid queue.region) (k.sq queue.region).window) in
      leaves_both k one (with_deleting k qid queue.region c candidate) (leaves_sq k queue.region _ refl)
      (leaves_both one two (with_deleting k qid queue.region c candidate) (leaves_cq one c _ refl) (leaves_none two (with_deleting k qid queue.region c candidate) refl refl refl refl))

-- and the table
leaves_table : (past : Past) (k : Content) (candidate : Candidate) (c : ℕ) (board : BoardView) (v : Verdict) → (after_admin past k candidate c board v).table ≡ k.table
leaves_table past k candidate c board (Done status dw0) = refl
leaves_table past k candidate c board (verdict.OpenSq qid region cqid class) = refl
leaves_table past k candidate c board (verdict.OpenCq qid region) = refl
leaves_table past k candidate c board (CloseCq qid) = refl
leaves_table past k candidate c board (verdict.SetArbitration settings) = refl
leaves_table past k candidate c board (verdict.Abort sqid cid) = by_target (target_of past sqid) where
  by_found : (queue : Queue) (o : Option Candidate) → (aborting_in k candidate sqid queue.region c cid board o).table ≡ k.table
  by_found queue None = refl
  by_found queue (Some found) = refl

  by_target : (o : Option Queue) → (aborting_from k candidate sqid c cid board o).table ≡ k.table
  by_target None = refl
  by_target (Some queue) = by_found queue (oldest_named cid (k.sq queue.region).window)
leaves_table past k candidate c board (BeginDelete qid) = by_sq (open_sq past qid) where
  by_sq : (o : Option Queue) → (deleting_from k qid c candidate o).table ≡ k.table
  by_sq None = refl
  by_sq (Some queue) = refl

-- aborts leave the table history
aborts_leave_history : (rules : FrontRules) (r : ℕ) (is : List ℕ) (past : Past)
    → table_history rules (with_events (map (λ (i : ℕ). Abort r i) is) past) ≡ table_history rules past
aborts_leave_history rules r [] past = refl
aborts_leave_history rules r (i ∷ is) past = aborts_leave_history rules r is (Abort r i ∷ past)

-- and so does what a verdict makes
made_leave_history : (rules : FrontRules) (past later : Past) (v : Verdict) → table_history rules (with_events (made_by past v) later) ≡ table_history rules later
made_leave_history rules past later (Done status dw0) = refl
made_leave_history rules past later (verdict.OpenSq qid region cqid class) = refl
made_leave_history rules past later (verdict.OpenCq qid region) = refl
made_leave_history rules past later (verdict.SetArbitration settings) = refl
made_leave_history rules past later (verdict.Abort sqid cid) = by_target (target_of past sqid) where
  by_target : (o : Option Queue) → table_history rules (with_events (abort_in past cid o) later) ≡ table_history rules later
  by_target None = refl
  by_target (Some queue) = aborts_leave_history rules queue.region (take 1 (named past queue.region cid)) later
made_leave_history rules past later (CloseCq qid) = by_cq (open_cq past qid) where
  by_cq : (o : Option ℕ) → table_history rules (with_events (closed_cq_of qid o) later) ≡ table_history rules later
  by_cq None = refl
  by_cq (Some region) = refl
made_leave_history rules past later (BeginDelete qid) = by_sq (open_sq past qid) where
  by_sq : (o : Option Queue) → table_history rules (with_events (closing_of past qid o) later) ≡ table_history rules later
  by_sq None = refl
  by_sq (Some queue) = aborts_leave_history rules queue.region (waiting past queue.region) (event.Closing qid queue.region ∷ later)

-- the entry of an admin pick is a step of the table history
pub tabled-admin : KeepsAdmin Tabled
tabled-admin rules late past k seen pick picked candidate rest table c board s can seen_is z one apply chosen =
    let v : Verdict = verdict_at rules s.tabled.history candidate in
    let before : Content = applied_to k picked table in
    let after : Content = after_admin past before candidate c board v in
    let same : after.table ≡ table = leaves_table past before candidate c board v in
    let picks : table_history rules (event.Pick seen pick ∷ past) ≡ EntryApplied candidate.entry ∷ table_history rules past =
    cond-true (pick.qid == 0) (applied (admin_entry past) ++ table_history rules past) (table_history rules past) (eq-eqb pick.qid 0 z)
    ∙ ap (λ (o : Option Sqe). applied o ++ table_history rules past) (admin_entry_is past (k.sq 0) candidate rest (s.regions 0) apply.oldest) in
    held rules late past (admin_past past (event.Pick seen pick) v) k after s.tabled
    (leaves_both k (after_pick k admin_queue 1 picked) after (leaves_pick k admin_queue 1 picked)
    (leaves_both (after_pick k admin_queue 1 picked) before after (leaves_none (after_pick k admin_queue 1 picked) before refl refl refl refl) (leaves_verdict past before candidate c board v)))
    (ap (λ (t : QueueTable). t.sq_regions) same ∙ ap (λ (t : QueueTable). t.sq_regions) apply.table_is ∙ entry-sq_regions rules.start s.tabled.history candidate.entry ∙ sym (ap (λ (t : QueueTable). t.sq_regions) s.tabled.table_is))
    (ap (λ (t : QueueTable). t.cq_regions) same ∙ ap (λ (t : QueueTable). t.cq_regions) apply.table_is ∙ entry-cq_regions rules.start s.tabled.history candidate.entry ∙ sym (ap (λ (t : QueueTable). t.cq_regions) s.tabled.table_is))
    (EntryApplied candidate.entry ∷ s.tabled.history)
    (same ∙ apply.table_is) (subst FewQueues (sym same) apply.few_queues)
    (ap (λ (t : QueueTable). t.placing) (same ∙ apply.table_is) ∙ entry-placing rules.start s.tabled.history candidate.entry ∙ sym (ap (λ (t : QueueTable). t.placing) s.tabled.table_is))
    (λ e. ap (λ (h : TableHistory). EntryApplied candidate.entry ∷ h) (s.tabled.history_is e) ∙ sym picks ∙ sym (made_leave_history rules past (event.Pick seen pick ∷ past) v))
