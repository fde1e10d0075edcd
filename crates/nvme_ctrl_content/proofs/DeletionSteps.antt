-- The steps of a controller keep what it keeps of pending deletions.
use Rattle.std.proofs.Common.{◌≡◌, ℕ, ◌-◌, ◌==◌, ◌&&◌, ◌||◌, not, Bool, true, false, List, [], ◌∷◌, map, take, Option, Some, None, refl, sym, ap, subst, ◌∙◌, inl, inr, eq-eqb, eqb-true, true≢false}
use Rattle.std.specs.Prelude.{option_map, if◌then◌else◌, slice_get}
use Rattle.std.proofs.lemmas.Bool.{cases_eq, ne_eqb, cond-true, cond-false, false_from_ne_true}
use Rattle.std.proofs.lemmas.Option.{same_Some}
use Rattle.nvme_arbiter.specs.Board.{BoardView}
use Rattle.nvme_arbiter.specs.declared.pick.Pick.{Pick}
use Rattle.nvme_arbiter.specs.declared.pick.Seen.{Seen}
use Rattle.nvme_arbiter.specs.declared.settings.Class.{Class}
use Rattle.nvme_admin.specs.QueueTable.{as_closing, unless_closing, QueueTable}
use Rattle.nvme_admin.specs.Checks.{is_open}
use Rattle.nvme_admin.specs.Accepted.{queue_table, sq_at}
use Rattle.nvme_admin.specs.Changes.{IsDue, TellsChange, sq_after}
use Rattle.nvme_admin.specs.declared.verdict.SqEntry.{SqEntry}
use Rattle.nvme_admin.specs.declared.verdict.Verdict.{Verdict}
use Rattle.nvme_admin.specs.declared.verdict.Verdict.TheVariants.{Done, BeginDelete, CloseCq}
use Rattle.nvme_admin.specs.declared.verdict.Verdict.TheVariants as verdict
use Rattle.nvme_admin.proofs.Changed.{TellsChange-entry, finish-takes_one}
use Rattle.nvme_entry.specs.declared.submission.Sqe.{Sqe}
use Rattle.nvme_log.specs.declared.event.Event.TheVariants.{Abort}
use Rattle.nvme_log.specs.declared.event.Event.TheVariants as event
use Rattle.nvme_log.specs.Rules.{FrontRules, Past}
use Rattle.nvme_log.specs.Queues.{Queue, admin_queue, open_sq, open_cq, is_closed_region}
use Rattle.nvme_log.specs.Places.{fetched, waiting, is_aborted, entry_at}
use Rattle.nvme_log.specs.Dispatches.{place_at}
use Rattle.nvme_log.specs.Effects.{abort_in, closed_cq_of, closing_of, named, target_of}
use Rattle.nvme_log.specs.Account.{latest_admin_place}
use Rattle.nvme_log.specs.Laws.{as_open}
use Rattle.nvme_ctrl_log.specs.Deletions.{deleting}
use Rattle.nvme_ctrl_content.specs.Content.{Candidate, PendingDelete, Attachment, SqContent, Content, put_sq, put_deletion}
use Rattle.nvme_ctrl_content.specs.Standing.{HoldsQueues, HoldsDeletion, IsPending, Holds}
use Rattle.nvme_ctrl_content.proofs.DeletedQueues.{undeleted_apart}
use Rattle.nvme_ctrl_content.proofs.Oldest.{oldest_place, oldest_entry, oldest_unaborted}
use Rattle.nvme_ctrl_content.proofs.DeletingRegions.{Here, Elsewhere, is_put}
use Rattle.nvme_ctrl_log.proofs.QueueWords.{at_other}
use Rattle.nvme_ctrl_content.proofs.QueueWords.{put-queue}
use Rattle.nvme_ctrl_log.proofs.AbortTargets.{target_is}
use Rattle.nvme_ctrl_log.proofs.ServedPlaces.{entry_stays}
use Rattle.nvme_ctrl_content.specs.Steps.{CanApply, picked_sq, applied_to, verdict_at, oldest_named}
use Rattle.nvme_ctrl_log.proofs.LaterEvents.{with_events}
use Rattle.nvme_ctrl_content.proofs.AfterSteps.{fetched_sq, fetch_event, after_fetch, closed_event, after_closed, admin_past, after_admin, aborting_from, aborting_in, deleting_from}
use Rattle.nvme_ctrl_content.proofs.StepKeeps.{KeepsFetch, KeepsIo, KeepsAdmin, KeepsPost, KeepsClose, Deleting}

-- ---- a deletion stands
-- where its queue and its command are left
stays : (past later : Past) (k after : Content) (r : ℕ) (d : PendingDelete) → IsPending past k r d → after.table.sq d.qid ≡ k.table.sq d.qid
    → ((e : Sqe) → entry_at past d.place.region d.place.index ≡ Some e → entry_at later d.place.region d.place.index ≡ Some e)
    → is_aborted later d.place.region d.place.index ≡ is_aborted past d.place.region d.place.index
    → (after.sq d.region).window ≡ (k.sq d.region).window → (after.sq d.region).queue ≡ (k.sq d.region).queue
    → is_closed_region later d.region ≡ is_closed_region past d.region → IsPending later after r d
stays past later k after r d is table entries aborted window queue closed = record {
  at = is.at;
  closing = is.closing;
  in_table = table ∙ is.in_table;
  is_closing = is.is_closing;
  region = is.region;
  of_admin = is.of_admin;
  entry = is.entry;
  is_there = entries is.entry is.is_there;
  cid = is.cid;
  not_aborted = aborted ∙ is.not_aborted;
  none_waits = window ∙ is.none_waits;
  not_closed = closed ∙ is.not_closed;
  not_admin = is.not_admin;
  attached = ap (option_map (λ (a : Attachment). a.qid)) queue ∙ is.attached;
}

-- a region in whose place another is put
apart : (sq : ℕ → SqContent) (r : ℕ) (s : SqContent) (x : ℕ) → (x ≡ r → ⊥) → put_sq sq r s x ≡ sq x
apart sq r s x other = at_other x r s (sq x) other

-- a fetch is of an open queue, which isn't being deleted
pub deleting-fetch : KeepsFetch Deleting
deleting-fetch rules late past k q queue entry s can regions = record {
  place_is = s.deletion.place_is;
  stands = λ r d e.
      let left = apart k.sq queue.region (fetched_sq (k.sq queue.region) entry) d.region (undeleted_apart rules late past k s q queue r d can.is_open e) in
      stays past (fetch_event k queue entry ∷ past) k (after_fetch k q queue entry) r d (s.deletion.stands r d e) refl
      (λ x there. entry_stays past queue.region (k.sq queue.region).fetched d.place.region d.place.index entry x there) refl
      (ap (λ (z : SqContent). z.window) left) (ap (λ (z : SqContent). z.queue) left) refl;
}

-- so is an I/O pick
pub deleting-io : KeepsIo Deleting
deleting-io rules late past k queue seen pick board c s can seen_is io attached regions = record {
  place_is = s.deletion.place_is;
  stands = λ r d e.
      let left = apart k.sq queue.region (picked_sq (k.sq queue.region) pick.n) d.region (undeleted_apart rules late past k s pick.qid queue r d can.is_open e) in
      stays past (event.Pick seen pick ∷ past) k _ r d (s.deletion.stands r d e) refl (λ x there. there) refl
      (ap (λ (z : SqContent). z.window) left) (ap (λ (z : SqContent). z.queue) left) refl;
}

-- ---- a post
-- a region put in the place of one, with the same window, leaves each window
put_window : (sq : ℕ → SqContent) (r : ℕ) (s : SqContent) (x : ℕ) (b : Bool) → s.window ≡ (sq r).window → (x == r) ≡ b
    → (if b then s else sq x).window ≡ (sq x).window
put_window sq r s x true same e = same ∙ ap (λ (y : ℕ). (sq y).window) (sym (eqb-true x r e))
put_window sq r s x false same e = refl

-- a region that is put with no candidate has none
put_emptied : (sq : ℕ → SqContent) (r : ℕ) (s : SqContent) → s.window ≡ [] → (put_sq sq r s r).window ≡ []
put_emptied sq r s h = rw (eq-eqb r r refl) h

-- a post leaves the pending deletions
pub deleting-post : KeepsPost Deleting
deleting-post rules late past k c t rest cqe s can regions = record {
  place_is = s.deletion.place_is;
  stands = λ r d e.
      let posted : SqContent = record (k.sq t.place.region) { unposted = (k.sq t.place.region).unposted - 1 } in
      stays past _ k _ r d (s.deletion.stands r d e) refl (λ x there. there) refl
      (put_window k.sq t.place.region posted d.region (d.region == t.place.region) refl refl) (put-queue k.sq t.place.region posted refl d.region) refl;
}

-- ---- the end of a deletion
-- a deletion less is kept so
less : (deletion : ℕ → Option PendingDelete) (r x : ℕ) (old : Option ℕ) → old ≡ option_map (λ (d : PendingDelete). d.place.index) (deletion x)
    → (if r == x then None else old) ≡ option_map (λ (d : PendingDelete). d.place.index) (put_deletion deletion r None x)
less deletion r x old e = elim (cases_eq x r) [
  | inl same ↦ rw (eq-eqb x r same, eq-eqb r x (sym same)) refl
  | inr other ↦ rw (ne_eqb x r other, ne_eqb r x (λ z. other (sym z))) e
]

-- the other deletions stand after it
pub deleting-close : KeepsClose Deleting
deleting-close rules late past k d table s can regions = record {
  place_is = λ r. less k.deletion d.region r (deleting past r) (s.deletion.place_is r);
  stands = λ r x e. elim (is_put k.deletion d.region None r x e) [
    | Here same none ↦ absurd (cc none)
    | Elsewhere differs there ↦ still r x differs there
  ];
} where
  still : (r : ℕ) (x : PendingDelete) → (r ≡ d.region → ⊥) → k.deletion r ≡ Some x → IsPending (closed_event d ∷ past) (after_closed k d table) r x
  still r x differs there =
      let one = s.deletion.stands d.region d can.pending in
      let is = s.deletion.stands r x there in
      let qids : d.qid ≡ x.qid → ⊥ = λ e.
      let moved : Some one.closing ≡ Some is.closing = sym one.in_table ∙ ap k.table.sq e ∙ is.in_table in
      differs (sym is.at ∙ sym is.region ∙ ap (λ (z : SqEntry). z.region) (sym (same_Some one.closing is.closing moved)) ∙ one.region) in
      let left : table.sq x.qid ≡ k.table.sq x.qid =
      ap (λ (t : QueueTable). t.sq x.qid) can.table_is ∙ finish-takes_one rules.start s.tabled.history d.qid x.qid
      ∙ ap (λ (b : Bool). if b then unless_closing (sq_at rules.start s.tabled.history x.qid) else sq_at rules.start s.tabled.history x.qid) (ne_eqb d.qid x.qid qids)
      ∙ sym (ap (λ (t : QueueTable). t.sq x.qid) s.tabled.table_is) in
      let closed : is_closed_region (closed_event d ∷ past) x.region ≡ is_closed_region past x.region =
      ap (λ (b : Bool). b || is_closed_region past x.region) (ne_eqb d.region x.region (λ e. differs (sym is.at ∙ sym e))) in
      stays past (closed_event d ∷ past) k (after_closed k d table) r x is left (λ e h. h) refl refl refl closed

-- ---- aborts
-- aborts leave the places of the commands of deletions
aborts_leave_deleting : (r x : ℕ) (is : List ℕ) (past : Past) → deleting (with_events (map (λ (i : ℕ). Abort r i) is) past) x ≡ deleting past x
aborts_leave_deleting r x [] past = refl
aborts_leave_deleting r x (i ∷ is) past = aborts_leave_deleting r x is (Abort r i ∷ past)

-- and what was fetched
aborts_leave_fetched : (r x : ℕ) (is : List ℕ) (past : Past) → fetched (with_events (map (λ (i : ℕ). Abort r i) is) past) x ≡ fetched past x
aborts_leave_fetched r x [] past = refl
aborts_leave_fetched r x (i ∷ is) past = aborts_leave_fetched r x is (Abort r i ∷ past)

-- and the closed regions
aborts_leave_closed : (r x : ℕ) (is : List ℕ) (past : Past) → is_closed_region (with_events (map (λ (i : ℕ). Abort r i) is) past) x ≡ is_closed_region past x
aborts_leave_closed r x [] past = refl
aborts_leave_closed r x (i ∷ is) past = aborts_leave_closed r x is (Abort r i ∷ past)

-- aborts of one region leave the places of another
abort_of_other : (r x i j : ℕ) (past : Past) → (r ≡ x → ⊥) → is_aborted (Abort r i ∷ past) x j ≡ is_aborted past x j
abort_of_other r x i j past n = ap (λ (b : Bool). (b && i == j) || is_aborted past x j) (ne_eqb r x n)

-- one abort, or many
aborts_leave_aborted : (r x j : ℕ) (is : List ℕ) (past : Past) → (r ≡ x → ⊥)
    → is_aborted (with_events (map (λ (i : ℕ). Abort r i) is) past) x j ≡ is_aborted past x j
aborts_leave_aborted r x j [] past n = refl
aborts_leave_aborted r x j (i ∷ is) past n = aborts_leave_aborted r x j is (Abort r i ∷ past) n ∙ abort_of_other r x i j past n

-- ---- an admin pick
-- the region of an I/O queue isn't that of the admin queue
io_region : (past : Past) (k : Content) (qid : ℕ) (queue : Queue) → HoldsQueues past k → open_sq past 0 ≡ Some admin_queue → open_sq past qid ≡ Some queue
    → (qid ≡ 0 → ⊥) → queue.region ≡ 0 → ⊥
io_region past k qid queue h admin io not_admin e =
    let a = h.attached 0 admin_queue admin in
    let b = h.attached qid queue io in
    let first : Attachment = record { qid = 0; cq_region = a.cq_region } in
    let other : Attachment = record { qid = qid; cq_region = b.cq_region } in
    let both : Some other ≡ Some first = sym b.attached ∙ ap (λ (r : ℕ). (k.sq r).queue) e ∙ a.attached in
    let same : other ≡ first = cc in
    not_admin (ap (λ (x : Attachment). x.qid) same)

-- a queue of the table that is open has the region of the open queue
opened_in : (entry : SqEntry) (queue : Queue) (b : Bool) → entry.closing ≡ b → as_open (Some entry) ≡ Some queue → entry.region ≡ queue.region
opened_in entry queue true e h = let none : None ≡ Some queue = rw e at h in absurd (cc)
opened_in entry queue false e h =
    let some : Some (record { region = entry.region; cqid = entry.cqid; class = entry.class }) ≡ Some queue = rw e at h in
    let same : record { region = entry.region; cqid = entry.cqid; class = entry.class } ≡ queue = cc in
    ap (λ (x : Queue). x.region) same

-- an open queue of the log is one of the table
open_entry : (o : Option SqEntry) (queue : Queue) → as_open o ≡ Some queue → (entry : SqEntry) × (o ≡ Some entry) × (entry.region ≡ queue.region)
open_entry None queue h = absurd (cc)
open_entry (Some entry) queue h = (entry, refl, opened_in entry queue entry.closing refl h)

-- a queue that is open is one of the log
open_in_log : (o : Option SqEntry) → is_open o ≡ true → as_open o ≡ None → ⊥
open_in_log None e none = true≢false (sym e)
open_in_log (Some entry) e none = by_closing entry.closing refl where
  by_closing : (b : Bool) → entry.closing ≡ b → ⊥
  by_closing true h = let closed : false ≡ true = rw h at e in true≢false (sym closed)
  by_closing false h =
      let queue : Queue = record { region = entry.region; cqid = entry.cqid; class = entry.class } in
      let some : Some queue ≡ None = sym (cond-false entry.closing None (Some queue) h) ∙ none in
      cc

-- an Abort command leaves the pending deletions
aborting_leaves_deletion : (k : Content) (candidate : Candidate) (sqid c cid : ℕ) (board : BoardView) (o : Option Queue) → (aborting_from k candidate sqid c cid board o).deletion ≡ k.deletion
aborting_leaves_deletion k candidate sqid c cid board None = refl
aborting_leaves_deletion k candidate sqid c cid board (Some queue) = found (oldest_named cid (k.sq queue.region).window) where
  found : (o : Option Candidate) → (aborting_in k candidate sqid queue.region c cid board o).deletion ≡ k.deletion
  found None = refl
  found (Some it) = refl

-- and the table
aborting_leaves_table : (k : Content) (candidate : Candidate) (sqid c cid : ℕ) (board : BoardView) (o : Option Queue) → (aborting_from k candidate sqid c cid board o).table ≡ k.table
aborting_leaves_table k candidate sqid c cid board None = refl
aborting_leaves_table k candidate sqid c cid board (Some queue) = found (oldest_named cid (k.sq queue.region).window) where
  found : (o : Option Candidate) → (aborting_in k candidate sqid queue.region c cid board o).table ≡ k.table
  found None = refl
  found (Some it) = refl

-- so does what it makes
abort_leaves_deleting : (past later : Past) (cid x : ℕ) (o : Option Queue) → deleting (with_events (abort_in past cid o) later) x ≡ deleting later x
abort_leaves_deleting past later cid x None = refl
abort_leaves_deleting past later cid x (Some queue) = aborts_leave_deleting queue.region x (take 1 (named past queue.region cid)) later

-- ---- an admin pick
-- what a command is to be answered by may begin no deletion of a queue that is closing, nor open it
closing_left : (v : Verdict) (sqs : ℕ → Option SqEntry) (q : ℕ) (e : SqEntry) → ((qid region cqid : ℕ) (class : Class) → v ≡ verdict.OpenSq qid region cqid class → sqs qid ≡ None)
    → ((qid : ℕ) → v ≡ BeginDelete qid → is_open (sqs qid) ≡ true) → sqs q ≡ Some e → e.closing ≡ true → sq_after v sqs q ≡ Some e
closing_left (Done status dw0) sqs q e free may is closes = is
closing_left (verdict.OpenCq qid region) sqs q e free may is closes = is
closing_left (CloseCq qid) sqs q e free may is closes = is
closing_left (verdict.Abort sqid cid) sqs q e free may is closes = is
closing_left (verdict.SetArbitration settings) sqs q e free may is closes = is
closing_left (verdict.OpenSq qid region cqid class) sqs q e free may is closes = at_other qid q _ (sqs q) (λ same.
    let none : sqs q ≡ None = subst (λ (z : ℕ). sqs z ≡ None) same (free qid region cqid class refl) in
    cc (none, is)) ∙ is
closing_left (BeginDelete qid) sqs q e free may is closes = at_other qid q _ (sqs q) (λ same.
    let yes : is_open (sqs q) ≡ true = subst (λ (z : ℕ). is_open (sqs z) ≡ true) same (may qid refl) in
    let no : is_open (sqs q) ≡ false = ap (λ (o : Option SqEntry). is_open o) is ∙ ap not closes in
    true≢false (sym yes ∙ no)) ∙ is

module _ (rules : FrontRules) (late : Bool) (past : Past) (k : Content) (seen : List Seen) (pick : Pick) (picked : BoardView)
    (candidate : Candidate) (rest : List Candidate) (table : QueueTable) (c : ℕ) (board : BoardView) (s : Holds rules late past k)
    (admin : open_sq past 0 ≡ Some admin_queue) (zero_is : pick.qid ≡ 0) (can : CanApply rules past k s.tabled.history candidate rest table) where
  abbrev taken : Past
  taken = event.Pick seen pick ∷ past

  abbrev now : Content
  now = applied_to k picked table

  -- the table has its closing queues yet
  table_left : (v : Verdict) → TellsChange rules.start s.tabled.history candidate.entry v → (r : ℕ) (d : PendingDelete) → k.deletion r ≡ Some d → table.sq d.qid ≡ k.table.sq d.qid
  table_left v tells r d e =
      let p = s.deletion.stands r d e in
      let was : sq_at rules.start s.tabled.history d.qid ≡ Some p.closing = sym (ap (λ (t : QueueTable). t.sq d.qid) s.tabled.table_is) ∙ p.in_table in
      ap (λ (t : QueueTable). t.sq d.qid) can.table_is ∙ tells.sqs d.qid
      ∙ closing_left v (sq_at rules.start s.tabled.history) d.qid p.closing
      (λ qid region cqid class is. let due = subst (λ (z : Verdict). IsDue (queue_table rules.start s.tabled.history) z) is tells.due in due.free)
      (λ qid is. let due = subst (λ (z : Verdict). IsDue (queue_table rules.start s.tabled.history) z) is tells.due in due.open_sq) was p.is_closing
      ∙ sym p.in_table

  -- and the pick left their regions
  region_left : (r : ℕ) (d : PendingDelete) → k.deletion r ≡ Some d → now.sq d.region ≡ k.sq d.region
  region_left r d e = apart k.sq 0 (picked_sq (k.sq 0) 1) d.region (s.deletion.stands r d e).not_admin

  -- a deletion stands where nothing but the admin queue's region is changed of the regions
  stands_left : (later : Past) (after : Content) (r : ℕ) (d : PendingDelete) → k.deletion r ≡ Some d → after.table.sq d.qid ≡ k.table.sq d.qid
      → ((x j : ℕ) → entry_at later x j ≡ entry_at past x j) → ((j : ℕ) → is_aborted later 0 j ≡ is_aborted past 0 j) → ((x : ℕ) → is_closed_region later x ≡ is_closed_region past x)
      → (after.sq d.region).window ≡ (k.sq d.region).window → (after.sq d.region).queue ≡ (k.sq d.region).queue → IsPending later after r d
  stands_left later after r d e same entries aborted closed window queue =
      let p = s.deletion.stands r d e in
      stays past later k after r d p same (λ x there. entries d.place.region d.place.index ∙ there)
      (subst (λ (z : ℕ). is_aborted later z d.place.index ≡ is_aborted past z d.place.index) (sym p.of_admin) (aborted d.place.index)) window queue (closed d.region)

  -- as it does of most commands
  plain : (v : Verdict) → TellsChange rules.start s.tabled.history candidate.entry v → (later : Past) (after : Content) → after.deletion ≡ k.deletion → after.table ≡ table
      → ((r : ℕ) (d : PendingDelete) → k.deletion r ≡ Some d → after.sq d.region ≡ k.sq d.region) → ((r : ℕ) → deleting later r ≡ deleting past r)
      → ((x j : ℕ) → entry_at later x j ≡ entry_at past x j) → ((j : ℕ) → is_aborted later 0 j ≡ is_aborted past 0 j) → ((x : ℕ) → is_closed_region later x ≡ is_closed_region past x)
      → HoldsDeletion later after
  plain v tells later after deletions same sqs deletes entries aborted closed = record {
    place_is = λ r. deletes r ∙ s.deletion.place_is r ∙ ap (λ (f : ℕ → Option PendingDelete). option_map (λ (d : PendingDelete). d.place.index) (f r)) (sym deletions);
    stands = λ r d e.
        let there : k.deletion r ≡ Some d = ap (λ (f : ℕ → Option PendingDelete). f r) (sym deletions) ∙ e in
        stands_left later after r d there (ap (λ (t : QueueTable). t.sq d.qid) same ∙ table_left v tells r d there) entries aborted closed
        (ap (λ (z : SqContent). z.window) (sqs r d there)) (ap (λ (z : SqContent). z.queue) (sqs r d there));
  }

  -- the deletion of a queue begins: it is pending afterwards, on the region of the queue, with the place of the picked command
  begun : (qid : ℕ) (queue : Queue) → TellsChange rules.start s.tabled.history candidate.entry (BeginDelete qid) → open_sq past qid ≡ Some queue
      → HoldsDeletion (with_events (closing_of past qid (Some queue)) taken) (deleting_from now qid c candidate (Some queue))
  begun qid queue tells is_open =
      let due = tells.due in
      let r : ℕ = queue.region in
      let is : List ℕ = waiting past r in
      let before : Past = event.Closing qid r ∷ taken in
      let later : Past = with_events (closing_of past qid (Some queue)) taken in
      let after : Content = deleting_from now qid c candidate (Some queue) in
      let found = open_entry (k.table.sq qid) queue (sym (s.queues.sqs qid) ∙ is_open) in
      let other : r ≡ 0 → ⊥ = io_region past k qid queue s.queues admin is_open due.not_admin in
      let d : PendingDelete = record { place = place_at 0 candidate.index; cid = candidate.entry.cid; qid = qid; region = r } in
      let place : latest_admin_place taken ≡ Some candidate.index =
      cond-true (pick.qid == 0) (slice_get (waiting past 0) 0) (latest_admin_place past) (eq-eqb pick.qid 0 zero_is) ∙ oldest_place past 0 (k.sq 0) (s.regions 0) candidate rest can.oldest in
      let in_table : table.sq qid ≡ Some (as_closing found.0) =
      ap (λ (t : QueueTable). t.sq qid) can.table_is ∙ tells.sqs qid
      ∙ cond-true (qid == qid) (option_map as_closing (sq_at rules.start s.tabled.history qid)) (sq_at rules.start s.tabled.history qid) (eq-eqb qid qid refl)
      ∙ ap (option_map as_closing) (sym (ap (λ (t : QueueTable). t.sq qid) s.tabled.table_is) ∙ found.1) in
      let entry : entry_at later 0 candidate.index ≡ Some candidate.entry =
      ap (λ (xs : List Sqe). slice_get xs candidate.index) (aborts_leave_fetched r 0 is before) ∙ oldest_entry past 0 (k.sq 0) (s.regions 0) candidate rest can.oldest in
      let not_aborted : is_aborted later 0 candidate.index ≡ false =
      aborts_leave_aborted r 0 candidate.index is before other ∙ oldest_unaborted past 0 (k.sq 0) (s.regions 0) candidate rest can.oldest in
      let none_waits : (after.sq r).window ≡ [] = put_emptied now.sq r _ refl in
      let not_closed : is_closed_region later r ≡ false =
      aborts_leave_closed r r is before ∙ false_from_ne_true (is_closed_region past r) (λ h. s.queues.closed qid r queue h is_open refl) in
      let opened = s.queues.attached qid queue is_open in
      let attached : option_map (λ (a : Attachment). a.qid) (after.sq r).queue ≡ Some qid =
      ap (option_map (λ (a : Attachment). a.qid)) (put-queue now.sq r _ refl r ∙ put-queue k.sq 0 (picked_sq (k.sq 0) 1) refl r ∙ opened.attached) in
      let this : IsPending later after r d = record {
        at = refl;
        closing = as_closing found.0;
        in_table = in_table;
        is_closing = refl;
        region = found.2;
        of_admin = refl;
        entry = candidate.entry;
        is_there = entry;
        cid = refl;
        not_aborted = not_aborted;
        none_waits = none_waits;
        not_closed = not_closed;
        not_admin = other;
        attached = attached;
      } in
      record {
        place_is = λ x. aborts_leave_deleting r x is before ∙ more x place;
        stands = λ x e at. elim (is_put k.deletion r (Some d) x e at) [
          | Here same one ↦ subst (λ (y : ℕ). IsPending later after y e) (sym same) (subst (IsPending later after r) (same_Some d e one) this)
          | Elsewhere differs there ↦
              let left = apart now.sq r _ e.region (undeleted_apart rules late past k s qid queue x e is_open there) ∙ region_left x e there in
              stands_left later after x e there (table_left (BeginDelete qid) tells x e there) (λ y j. ap (λ (xs : List Sqe). slice_get xs j) (aborts_leave_fetched r y is before))
              (λ j. aborts_leave_aborted r 0 j is before other) (λ y. aborts_leave_closed r y is before) (ap (λ (z : SqContent). z.window) left) (ap (λ (z : SqContent). z.queue) left)
        ];
      } where
        more : (x : ℕ) → latest_admin_place taken ≡ Some candidate.index
            → (if queue.region == x then latest_admin_place taken else deleting past x)
            ≡ option_map (λ (z : PendingDelete). z.place.index) (put_deletion k.deletion queue.region (Some (record { place = place_at 0 candidate.index; cid = candidate.entry.cid; qid = qid; region = queue.region })) x)
        more x place = elim (cases_eq x queue.region) [
          | inl same ↦ rw (eq-eqb x queue.region same, eq-eqb queue.region x (sym same)) place
          | inr other ↦ rw (ne_eqb x queue.region other, ne_eqb queue.region x (λ z. other (sym z))) (s.deletion.place_is x)
        ]

  -- the region of an Abort command's queue isn't being deleted
  aborting_left : (sqid cid : ℕ) (o : Option Queue) → target_of past sqid ≡ o → (r : ℕ) (d : PendingDelete) → k.deletion r ≡ Some d
      → (aborting_from now candidate sqid c cid board o).sq d.region ≡ k.sq d.region
  aborting_left sqid cid None target r d e = region_left r d e
  aborting_left sqid cid (Some queue) target r d e = found (oldest_named cid (now.sq queue.region).window) where
    found : (o : Option Candidate) → (aborting_in now candidate sqid queue.region c cid board o).sq d.region ≡ k.sq d.region
    found None = region_left r d e
    found (Some it) = apart now.sq queue.region _ d.region (undeleted_apart rules late past k s sqid queue r d (target_is past sqid queue target).1 e) ∙ region_left r d e

  aborted_left : (sqid cid : ℕ) (o : Option Queue) → target_of past sqid ≡ o → (j : ℕ) → is_aborted (with_events (abort_in past cid o) taken) 0 j ≡ is_aborted past 0 j
  aborted_left sqid cid None target j = refl
  aborted_left sqid cid (Some queue) target j =
      let t = target_is past sqid queue target in
      aborts_leave_aborted queue.region 0 j (take 1 (named past queue.region cid)) taken (io_region past k sqid queue s.queues admin t.1 t.0)

  entries_left : (cid x j : ℕ) (o : Option Queue) → entry_at (with_events (abort_in past cid o) taken) x j ≡ entry_at past x j
  entries_left cid x j None = refl
  entries_left cid x j (Some queue) = ap (λ (xs : List Sqe). slice_get xs j) (aborts_leave_fetched queue.region x (take 1 (named past queue.region cid)) taken)

  closed_left : (cid x : ℕ) (o : Option Queue) → is_closed_region (with_events (abort_in past cid o) taken) x ≡ is_closed_region past x
  closed_left cid x None = refl
  closed_left cid x (Some queue) = aborts_leave_closed queue.region x (take 1 (named past queue.region cid)) taken

  -- by the verdict of its command
  by_verdict : (v : Verdict) → TellsChange rules.start s.tabled.history candidate.entry v → HoldsDeletion (admin_past past (event.Pick seen pick) v) (after_admin past now candidate c board v)
  by_verdict (Done status dw0) tells = plain (Done status dw0) tells _ _ refl refl region_left (λ r. refl) (λ x j. refl) (λ j. refl) (λ x. refl)
  by_verdict (verdict.OpenCq qid region) tells = plain (verdict.OpenCq qid region) tells _ _ refl refl region_left (λ r. refl) (λ x j. refl) (λ j. refl) (λ x. refl)
  by_verdict (verdict.SetArbitration settings) tells = plain (verdict.SetArbitration settings) tells _ _ refl refl region_left (λ r. refl) (λ x j. refl) (λ j. refl) (λ x. refl)
  by_verdict (CloseCq qid) tells = by_cq (open_cq past qid) where
    by_cq : (o : Option ℕ) → HoldsDeletion (with_events (closed_cq_of qid o) taken) (after_admin past now candidate c board (CloseCq qid))
    by_cq None = plain (CloseCq qid) tells _ _ refl refl region_left (λ r. refl) (λ x j. refl) (λ j. refl) (λ x. refl)
    by_cq (Some region) = plain (CloseCq qid) tells _ _ refl refl region_left (λ r. refl) (λ x j. refl) (λ j. refl) (λ x. refl)
  by_verdict (verdict.OpenSq qid region cqid class) tells =
      let due = tells.due in
      plain (verdict.OpenSq qid region cqid class) tells _ _ refl refl
      (λ r d e. apart now.sq region _ d.region (λ same.
      let none : (k.sq region).queue ≡ None = s.queues.unused region (ap (λ (t : QueueTable). t.sq_region_used region) s.tabled.table_is ∙ due.unused) in
      let o = s.queues.deleting r d e in
      let some = o.opened in
      let moved : (k.sq d.region).queue ≡ None = ap (λ (z : ℕ). (k.sq z).queue) same ∙ none in
      cc (some, moved)) ∙ region_left r d e) (λ r. refl) (λ x j. refl) (λ j. refl) (λ x. refl)
  by_verdict (verdict.Abort sqid cid) tells =
      let o : Option Queue = target_of past sqid in
      plain (verdict.Abort sqid cid) tells (with_events (abort_in past cid o) taken) (aborting_from now candidate sqid c cid board o)
      (aborting_leaves_deletion now candidate sqid c cid board o) (aborting_leaves_table now candidate sqid c cid board o)
      (aborting_left sqid cid o refl) (λ r. abort_leaves_deleting past taken cid r o) (λ x j. entries_left cid x j o) (aborted_left sqid cid o refl) (λ x. closed_left cid x o)
  by_verdict (BeginDelete qid) tells = by_sq (open_sq past qid) refl where
    by_sq : (o : Option Queue) → open_sq past qid ≡ o → HoldsDeletion (with_events (closing_of past qid o) taken) (deleting_from now qid c candidate o)
    by_sq None e = absurd (let due = tells.due in open_in_log (sq_at rules.start s.tabled.history qid) due.open_sq (ap as_open (sym (ap (λ (t : QueueTable). t.sq qid) s.tabled.table_is)) ∙ sym (s.queues.sqs qid) ∙ e))
    by_sq (Some queue) e = begun qid queue tells e

-- an admin pick keeps what is kept of pending deletions
pub deleting-admin : KeepsAdmin Deleting
deleting-admin rules late past k seen pick picked candidate rest table c board s can seen_is z one apply chosen regions =
    by_verdict rules late past k seen pick picked candidate rest table c board s (subst (λ (q : ℕ). open_sq past q ≡ Some admin_queue) z can.is_open) z apply
    (verdict_at rules s.tabled.history candidate) (TellsChange-entry rules.start s.tabled.history candidate.entry)
