-- Each step of a controller keeps which queues have their state kept: those that are open, and those that are being deleted.
use Rattle.std.proofs.Common.{◌≡◌, ℕ, ◌==◌, ◌||◌, Bool, true, false, if◌then◌else◌, List, ◌∷◌, map, take, Option, Some, None, refl, sym, ap, subst, ◌∙◌, inl, inr, true≢false}
use Rattle.std.specs.Prelude.{option_map}
use Rattle.std.proofs.lemmas.Bool.{cases_eq, eq-eqb, ne_eqb}
use Rattle.std.proofs.lemmas.Option.{none-some, same_Some}
use Rattle.nvme_arbiter.specs.Board.{BoardView}
use Rattle.nvme_arbiter.specs.declared.pick.Pick.{Pick}
use Rattle.nvme_arbiter.specs.declared.pick.Seen.{Seen}
use Rattle.nvme_arbiter.specs.declared.settings.Class.{Class}
use Rattle.nvme_admin.specs.Accepted.{queue_table, sq_at}
use Rattle.nvme_admin.specs.Changes.{IsDue, TellsChange, sq_after}
use Rattle.nvme_admin.specs.QueueTable.{as_closing, unless_closing, QueueTable}
use Rattle.nvme_admin.specs.declared.verdict.SqEntry.{SqEntry}
use Rattle.nvme_admin.specs.declared.verdict.Verdict.{Verdict}
use Rattle.nvme_admin.specs.declared.verdict.Verdict.TheVariants.{Done, BeginDelete, CloseCq}
use Rattle.nvme_admin.specs.declared.verdict.Verdict.TheVariants as verdict
use Rattle.nvme_admin.proofs.Changed.{TellsChange-entry, finish-takes_one}
use Rattle.nvme_admin.proofs.Reached.{or_false-parts}
use Rattle.nvme_log.specs.declared.event.Event.TheVariants as event
use Rattle.nvme_log.specs.Rules.{FrontRules, Past}
use Rattle.nvme_log.specs.Queues.{Queue, open_sq, open_cq, is_closed_region, qid_of_region}
use Rattle.nvme_log.specs.Places.{waiting}
use Rattle.nvme_log.specs.Dispatches.{place_at}
use Rattle.nvme_log.specs.Effects.{abort_in, closing_of, closed_cq_of, named, target_of}
use Rattle.nvme_log.specs.Laws.{as_open}
use Rattle.nvme_ctrl_content.specs.Content.{Candidate, PendingDelete, Content, put_life}
use Rattle.nvme_ctrl_content.specs.Standing.{HoldsLives, Holds, is_on}
use Rattle.nvme_ctrl_log.specs.Regions.{is_opened_cq}
use Rattle.nvme_ctrl_content.specs.Steps.{CanApply, applied_to, oldest_named, verdict_at}
use Rattle.nvme_ctrl_log.proofs.LaterEvents.{with_events}
use Rattle.nvme_ctrl_content.proofs.AfterSteps.{fetch_event, after_fetch, after_io, after_answer, post_event, after_post, admin_past, after_admin, deleting_from, aborting_from, aborting_in}
use Rattle.nvme_ctrl_content.proofs.DeletedQueues.{closing_not_open}
use Rattle.nvme_ctrl_content.proofs.DeletingRegions.{Here, Elsewhere, is_put}
use Rattle.nvme_ctrl_log.proofs.QueueWords.{at_same, at_other, chosen}
use Rattle.nvme_ctrl_content.proofs.ReadyAdmin.{unused_unnamed}
use Rattle.nvme_ctrl_log.proofs.ServedPlaces.{aborts-leave}
use Rattle.nvme_ctrl_content.proofs.StepKeeps.{KeepsFetch, KeepsIo, KeepsAnswer, KeepsAdmin, KeepsPost, KeepsClose, Lives}
use Rattle.nvme_ctrl_log.proofs.UsedCqRegions.{cq_used_after, cq_used-entry, cq_used-finished}

-- ---- what leaves them
-- a log says of queues what it said
pub record SameQueues (past later : Past) : Type 0 where
  pub sqs : (q : ℕ) → open_sq later q ≡ open_sq past q
  pub cqs : (q : ℕ) → open_cq later q ≡ open_cq past q
  pub closed : (r : ℕ) → is_closed_region later r ≡ is_closed_region past r
  pub qids : (r : ℕ) → qid_of_region later r ≡ qid_of_region past r
  pub opened : (x : ℕ) → is_opened_cq later x ≡ is_opened_cq past x

-- a table has the kept queues on their regions, and no fewer of its completion regions are used
pub record KeepsTable (k : Content) (table : QueueTable) : Type 0 where
  pub in_table : (q r : ℕ) → k.sq_life q ≡ Some r → is_on r (table.sq q) ≡ true
  pub used : (x : ℕ) → table.cq_region_used x ≡ false → k.table.cq_region_used x ≡ false

-- where neither the log nor what is kept of queues says otherwise, they are kept over another such table
pub lives_over : (past later : Past) (k after : Content) → HoldsLives past k → SameQueues past later → KeepsTable k after.table
    → after.sq_life ≡ k.sq_life → after.cq_life ≡ k.cq_life → after.deletion ≡ k.deletion → HoldsLives later after
lives_over past later k after h same table lives cq_lives deletion = record {
  sqs = λ q queue is. ap (λ (f : ℕ → Option ℕ). f q) lives ∙ h.sqs q queue (sym (same.sqs q) ∙ is);
  deleted = λ r d is. ap (λ (f : ℕ → Option ℕ). f d.qid) lives ∙ h.deleted r d (ap (λ (f : ℕ → Option PendingDelete). f r) (sym deletion) ∙ is);
  cqs = λ q. ap (λ (f : ℕ → Option ℕ). f q) cq_lives ∙ h.cqs q ∙ sym (same.cqs q);
  not_closed = λ q r is. same.closed r ∙ h.not_closed q r (was q r is);
  named = λ q r is. same.qids r ∙ h.named q r (was q r is);
  in_table = λ q r is. table.in_table q r (was q r is);
  there = λ r q is fresh. ap (λ (f : ℕ → Option ℕ). f q) lives ∙ h.there r q (sym (same.qids r) ∙ is) (sym (same.closed r) ∙ fresh);
  unopened = λ x un. same.opened x ∙ h.unopened x (table.used x un);
} where
  was : (q r : ℕ) → after.sq_life q ≡ Some r → k.sq_life q ≡ Some r
  was q r is = ap (λ (f : ℕ → Option ℕ). f q) (sym lives) ∙ is

-- and so over the table itself
pub lives_left : (past later : Past) (k after : Content) → HoldsLives past k → SameQueues past later → after.table ≡ k.table
    → after.sq_life ≡ k.sq_life → after.cq_life ≡ k.cq_life → after.deletion ≡ k.deletion → HoldsLives later after
lives_left past later k after h same table lives cq_lives deletion =
    lives_over past later k after h same (record {
      in_table = λ q r is. ap (λ (t : QueueTable). is_on r (t.sq q)) table ∙ h.in_table q r is;
      used = λ x un. ap (λ (t : QueueTable). t.cq_region_used x) (sym table) ∙ un;
    }) lives cq_lives deletion

-- ---- the steps that leave the queues
-- a fetch leaves them
pub lives-fetch : KeepsFetch Lives
lives-fetch rules late past k q queue entry s can =
    lives_left past (fetch_event k queue entry ∷ past) k (after_fetch k q queue entry) s.lives
    (record { sqs = λ p. refl; cqs = λ p. refl; closed = λ r. refl; qids = λ r. refl; opened = λ x. refl }) refl refl refl refl

-- so does an I/O pick
pub lives-io : KeepsIo Lives
lives-io rules late past k queue seen pick board c s can observed io attached =
    lives_left past (event.Pick seen pick ∷ past) k (after_io k queue pick.n board) s.lives
    (record { sqs = λ p. refl; cqs = λ p. refl; closed = λ r. refl; qids = λ r. refl; opened = λ x. refl }) refl refl refl refl

-- and an answer
pub lives-answer : KeepsAnswer Lives
lives-answer rules late past k p before after sqid c cid answer entry s can there names =
    lives_left past past k (after_answer k p before after sqid c cid answer) s.lives
    (record { sqs = λ q. refl; cqs = λ q. refl; closed = λ r. refl; qids = λ r. refl; opened = λ x. refl }) refl refl refl refl

-- and a post
pub lives-post : KeepsPost Lives
lives-post rules late past k c t rest cqe s can =
    lives_left past (post_event c t cqe ∷ past) k (after_post k c t rest cqe) s.lives
    (record { sqs = λ q. refl; cqs = λ q. refl; closed = λ r. refl; qids = λ r. refl; opened = λ x. refl }) refl refl refl refl

-- ---- the end of a deletion
module _ (rules : FrontRules) (late : Bool) (past : Past) (k : Content) (d : PendingDelete) (s : Holds rules late past k) (pending : k.deletion d.region ≡ Some d) where
  -- the region of its queue
  its_region : k.sq_life d.qid ≡ Some d.region
  its_region = s.lives.deleted d.region d pending

  -- another region is that of another queue
  other_queue : (q r : ℕ) → k.sq_life q ≡ Some r → (r ≡ d.region → ⊥) → q ≡ d.qid → ⊥
  other_queue q r is other same = other (same_Some r d.region (sym is ∙ ap k.sq_life same ∙ its_region))

  -- and another queue is on another region
  other_region : (q r : ℕ) → k.sq_life q ≡ Some r → (q ≡ d.qid → ⊥) → d.region ≡ r → ⊥
  other_region q r is other same =
      other (same_Some q d.qid (sym (s.lives.named q r is) ∙ ap (qid_of_region past) (sym same) ∙ s.lives.named d.qid d.region its_region))

  -- the queue isn't open
  its_closing : open_sq past d.qid ≡ None
  its_closing = let p = s.deletion.stands d.region d pending in s.queues.sqs d.qid ∙ ap as_open p.in_table ∙ closing_not_open p.closing p.is_closing

-- the queue of a deletion is gone, and its region is closed
pub lives-close : KeepsClose Lives
lives-close rules late past k d table s can = record {
  sqs = λ q queue is.
      at_other q d.qid None (k.sq_life q) (λ e. none-some queue (sym (its_closing rules late past k d s can.pending) ∙ ap (open_sq past) (sym e) ∙ is))
      ∙ s.lives.sqs q queue is;
  deleted = λ r e is. elim (is_put k.deletion d.region None r e is) [
    | Here same none ↦ absurd (none-some e none)
    | Elsewhere differs there ↦
        let was = s.lives.deleted r e there in
        at_other e.qid d.qid None (k.sq_life e.qid) (other_queue rules late past k d s can.pending e.qid r was differs) ∙ was
  ];
  cqs = λ q. s.lives.cqs q;
  not_closed = λ q r is. elim (is_put k.sq_life d.qid None q r is) [
    | Here same none ↦ absurd (none-some r none)
    | Elsewhere differs there ↦
        ap (λ (b : Bool). b || is_closed_region past r) (ne_eqb d.region r (other_region rules late past k d s can.pending q r there differs)) ∙ s.lives.not_closed q r there
  ];
  named = λ q r is. elim (is_put k.sq_life d.qid None q r is) [
    | Here same none ↦ absurd (none-some r none)
    | Elsewhere differs there ↦ s.lives.named q r there
  ];
  in_table = λ q r is. elim (is_put k.sq_life d.qid None q r is) [
    | Here same none ↦ absurd (none-some r none)
    | Elsewhere differs there ↦ ap (λ (o : Option SqEntry). is_on r o) (left q differs) ∙ s.lives.in_table q r there
  ];
  there = λ r q is fresh.
      let parts = or_false-parts (d.region == r) (is_closed_region past r) fresh in
      let was = s.lives.there r q is parts.1 in
      at_other q d.qid None (k.sq_life q) (other_queue rules late past k d s can.pending q r was (λ e. true≢false (sym (eq-eqb d.region r (sym e)) ∙ parts.0))) ∙ was;
  unopened = λ x un.
      s.lives.unopened x (ap (λ (t : QueueTable). t.cq_region_used x) s.tabled.table_is ∙ sym (cq_used-finished rules.start s.tabled.history d.qid x) ∙ sym (ap (λ (t : QueueTable). t.cq_region_used x) can.table_is) ∙ un);
} where
  -- the table has the other queues yet
  left : (q : ℕ) → (q ≡ d.qid → ⊥) → table.sq q ≡ k.table.sq q
  left q other =
      ap (λ (t : QueueTable). t.sq q) can.table_is ∙ finish-takes_one rules.start s.tabled.history d.qid q
      ∙ at_other d.qid q (unless_closing (sq_at rules.start s.tabled.history q)) (sq_at rules.start s.tabled.history q) (λ e. other (sym e))
      ∙ sym (ap (λ (t : QueueTable). t.sq q) s.tabled.table_is)

-- ---- an admin pick
-- a queue that begins to close has its region
on_closing : (r : ℕ) (b : Bool) (o : Option SqEntry) → is_on r (if b then option_map as_closing o else o) ≡ is_on r o
on_closing r true None = refl
on_closing r true (Some entry) = refl
on_closing r false o = refl

-- a verdict leaves the queues of a table on their regions, where it opens none under the identifier of one
on_after : (v : Verdict) (sqs : ℕ → Option SqEntry) (q r : ℕ) → ((qid region cqid : ℕ) (class : Class) → v ≡ verdict.OpenSq qid region cqid class → sqs qid ≡ None)
    → is_on r (sqs q) ≡ true → is_on r (sq_after v sqs q) ≡ true
on_after (Done status dw0) sqs q r free is = is
on_after (verdict.OpenCq qid region) sqs q r free is = is
on_after (CloseCq qid) sqs q r free is = is
on_after (verdict.Abort sqid cid) sqs q r free is = is
on_after (verdict.SetArbitration settings) sqs q r free is = is
on_after (BeginDelete qid) sqs q r free is = on_closing r (qid == q) (sqs q) ∙ is
on_after (verdict.OpenSq qid region cqid class) sqs q r free is =
    ap (λ (o : Option SqEntry). is_on r o) (at_other qid q _ (sqs q) (λ same.
    let none : is_on r (sqs q) ≡ false = ap (λ (o : Option SqEntry). is_on r o) (ap sqs (sym same) ∙ free qid region cqid class refl) in
    true≢false (sym is ∙ none))) ∙ is

-- a completion region that isn't used after a verdict wasn't before
used_before : (v : Verdict) (used : ℕ → Bool) (x : ℕ) → cq_used_after v used x ≡ false → used x ≡ false
used_before (Done status dw0) used x un = un
used_before (verdict.OpenSq qid region cqid class) used x un = un
used_before (verdict.OpenCq qid region) used x un = (or_false-parts (region == x) (used x) un).1
used_before (CloseCq qid) used x un = un
used_before (verdict.Abort sqid cid) used x un = un
used_before (verdict.SetArbitration settings) used x un = un
used_before (BeginDelete qid) used x un = un

-- what is put under an identifier, whichever way round the identifiers are compared
put_either : (lives opened : ℕ → Option ℕ) (qid q : ℕ) (o : Option ℕ) → lives q ≡ opened q → put_life lives qid o q ≡ (if qid == q then o else opened q)
put_either lives opened qid q o same = elim (cases_eq q qid) [
  | inl e ↦ at_same q qid o (lives q) e ∙ sym (at_same qid q o (opened q) (sym e))
  | inr d ↦ at_other q qid o (lives q) d ∙ same ∙ sym (at_other qid q o (opened q) (λ e. d (sym e)))
]

-- what isn't there is gone
none_more : (qid q : ℕ) (opened : ℕ → Option ℕ) → opened qid ≡ None → (if qid == q then None else opened q) ≡ opened q
none_more qid q opened none = elim (cases_eq qid q) [
  | inl e ↦ at_same qid q None (opened q) e ∙ sym none ∙ ap opened e
  | inr d ↦ at_other qid q None (opened q) d
]

module _ (rules : FrontRules) (late : Bool) (past : Past) (k : Content) (seen : List Seen) (pick : Pick) (picked : BoardView)
    (candidate : Candidate) (rest : List Candidate) (table : QueueTable) (c : ℕ) (board : BoardView) (s : Holds rules late past k)
    (can : CanApply rules past k s.tabled.history candidate rest table) where
  abbrev taken : Past
  taken = event.Pick seen pick ∷ past

  abbrev now : Content
  now = applied_to k picked table

  abbrev v : Verdict
  v = verdict_at rules s.tabled.history candidate

  -- the verdict tells what its command changes
  tells : TellsChange rules.start s.tabled.history candidate.entry v
  tells = TellsChange-entry rules.start s.tabled.history candidate.entry

  -- the queue that it opens isn't in the table
  opens_free : (qid region cqid : ℕ) (class : Class) → v ≡ verdict.OpenSq qid region cqid class → sq_at rules.start s.tabled.history qid ≡ None
  opens_free qid region cqid class is =
      let due = subst (λ (z : Verdict). IsDue (queue_table rules.start s.tabled.history) z) is tells.due in due.free

  -- the used completion regions of the table, by those before the command
  used_after_it : (x : ℕ) → table.cq_region_used x ≡ cq_used_after v (queue_table rules.start s.tabled.history).cq_region_used x
  used_after_it x = ap (λ (t : QueueTable). t.cq_region_used x) can.table_is ∙ cq_used-entry rules.start s.tabled.history candidate.entry x

  -- the table keeps the queues
  keeps_table : KeepsTable k table
  keeps_table = record {
    in_table = λ q r is.
        ap (λ (o : Option SqEntry). is_on r o) (ap (λ (t : QueueTable). t.sq q) can.table_is ∙ tells.sqs q)
        ∙ on_after v (sq_at rules.start s.tabled.history) q r opens_free (ap (λ (o : Option SqEntry). is_on r o) (sym (ap (λ (t : QueueTable). t.sq q) s.tabled.table_is)) ∙ s.lives.in_table q r is);
    used = λ x un.
        ap (λ (t : QueueTable). t.cq_region_used x) s.tabled.table_is ∙ used_before v (queue_table rules.start s.tabled.history).cq_region_used x (sym (used_after_it x) ∙ un);
  }

  -- a log with aborts says of queues what it said
  aborts_same : (r : ℕ) (is : List ℕ) (middle : Past) → SameQueues middle (with_events (map (λ (i : ℕ). event.Abort r i) is) middle)
  aborts_same r is middle = record {
    sqs = λ q. aborts-leave (λ (p : Past). open_sq p q) (λ p x i. refl) r is middle;
    cqs = λ q. aborts-leave (λ (p : Past). open_cq p q) (λ p x i. refl) r is middle;
    closed = λ x. aborts-leave (λ (p : Past). is_closed_region p x) (λ p y i. refl) r is middle;
    qids = λ x. aborts-leave (λ (p : Past). qid_of_region p x) (λ p y i. refl) r is middle;
    opened = λ x. aborts-leave (λ (p : Past). is_opened_cq p x) (λ p y i. refl) r is middle;
  }

  -- the pick says nothing of queues
  pick_same : SameQueues past taken
  pick_same = record { sqs = λ q. refl; cqs = λ q. refl; closed = λ r. refl; qids = λ r. refl; opened = λ x. refl }

  -- nor do aborts after it
  pick_and_aborts : (r : ℕ) (is : List ℕ) → SameQueues past (with_events (map (λ (i : ℕ). event.Abort r i) is) taken)
  pick_and_aborts r is =
      let same = aborts_same r is taken in
      record { sqs = same.sqs; cqs = same.cqs; closed = same.closed; qids = same.qids; opened = same.opened }

  -- most commands leave the queues
  plain : (later : Past) (after : Content) → SameQueues past later → after.table ≡ table → after.sq_life ≡ k.sq_life → after.cq_life ≡ k.cq_life → after.deletion ≡ k.deletion
      → HoldsLives later after
  plain later after same is lives cq_lives deletion = lives_over past later k after s.lives same (subst (KeepsTable k) (sym is) keeps_table) lives cq_lives deletion

  -- an Abort command does
  aborts : (sqid cid : ℕ) (o : Option Queue) → HoldsLives (with_events (abort_in past cid o) taken) (aborting_from now candidate sqid c cid board o)
  aborts sqid cid None = plain taken _ pick_same refl refl refl refl
  aborts sqid cid (Some queue) = found (oldest_named cid (now.sq queue.region).window) where
    later : Past
    later = with_events (abort_in past cid (Some queue)) taken

    found : (o : Option Candidate) → HoldsLives later (aborting_in now candidate sqid queue.region c cid board o)
    found None = plain later _ (pick_and_aborts queue.region (take 1 (named past queue.region cid))) refl refl refl refl
    found (Some it) = plain later _ (pick_and_aborts queue.region (take 1 (named past queue.region cid))) refl refl refl refl

  -- the deletion of a queue begins: its state is kept until it is finished
  begins : (qid : ℕ) (o : Option Queue) → open_sq past qid ≡ o → HoldsLives (with_events (closing_of past qid o) taken) (deleting_from now qid c candidate o)
  begins qid None is = plain taken _ pick_same refl refl refl refl
  begins qid (Some queue) is =
      let middle : Past = event.Closing qid queue.region ∷ taken in
      let d : PendingDelete = record { place = place_at 0 candidate.index; cid = candidate.entry.cid; qid = qid; region = queue.region } in
      let same = aborts_same queue.region (waiting past queue.region) middle in
      record {
        sqs = λ q other e. elim (chosen qid q None (open_sq past q) other (sym (same.sqs q) ∙ e)) [
          | inl p ↦ absurd (none-some other p.1)
          | inr n ↦ s.lives.sqs q other n.1
        ];
        deleted = λ r e at. elim (is_put k.deletion queue.region (Some d) r e at) [
          | Here same_region one ↦ subst (λ (x : PendingDelete). k.sq_life x.qid ≡ Some r) (same_Some d e one) (s.lives.sqs qid queue is ∙ ap (λ (x : ℕ). Some x) (sym same_region))
          | Elsewhere differs there ↦ s.lives.deleted r e there
        ];
        cqs = λ q. s.lives.cqs q ∙ sym (same.cqs q);
        not_closed = λ q r e. same.closed r ∙ s.lives.not_closed q r e;
        named = λ q r e. same.qids r ∙ s.lives.named q r e;
        in_table = keeps_table.in_table;
        there = λ r q e fresh. s.lives.there r q (sym (same.qids r) ∙ e) (sym (same.closed r) ∙ fresh);
        unopened = λ x un. same.opened x ∙ s.lives.unopened x (keeps_table.used x un);
      }

  -- a submission queue is opened
  opens : (qid region cqid : ℕ) (class : Class) → v ≡ verdict.OpenSq qid region cqid class
      → HoldsLives (event.OpenSq qid region cqid class ∷ taken) (after_admin past now candidate c board (verdict.OpenSq qid region cqid class))
  opens qid region cqid class is = record {
    sqs = λ q other e. elim (chosen qid q (Some opened) (open_sq past q) other e) [
      | inl p ↦ at_same q qid (Some region) (k.sq_life q) (sym p.0) ∙ ap (λ (x : Queue). Some x.region) (same_Some opened other p.1)
      | inr n ↦ at_other q qid (Some region) (k.sq_life q) (λ e. n.0 (sym e)) ∙ s.lives.sqs q other n.1
    ];
    deleted = λ r d e.
        let was = s.lives.deleted r d e in
        at_other d.qid qid (Some region) (k.sq_life d.qid) (others d.qid r was) ∙ was;
    cqs = s.lives.cqs;
    not_closed = λ q r e. elim (is_put k.sq_life qid (Some region) q r e) [
      | Here same one ↦ ap (is_closed_region past) (sym (same_Some region r one)) ∙ (s.queues.unopened region unused).not_closed
      | Elsewhere differs there ↦ s.lives.not_closed q r there
    ];
    named = λ q r e. elim (is_put k.sq_life qid (Some region) q r e) [
      | Here same one ↦ at_same region r (Some qid) (qid_of_region past r) (same_Some region r one) ∙ ap (λ (x : ℕ). Some x) (sym same)
      | Elsewhere differs there ↦
          let was = s.lives.named q r there in
          at_other region r (Some qid) (qid_of_region past r) (unused_unnamed rules late past k s region due.unused r q was) ∙ was
    ];
    in_table = λ q r e. elim (is_put k.sq_life qid (Some region) q r e) [
      | Here same one ↦
          ap (λ (o : Option SqEntry). is_on r o) (ap (λ (t : QueueTable). t.sq q) can.table_is ∙ tells.sqs q ∙ ap (λ (w : Verdict). sq_after w (sq_at rules.start s.tabled.history) q) is
          ∙ at_same qid q (Some entry) (sq_at rules.start s.tabled.history q) (sym same)) ∙ eq-eqb region r (same_Some region r one)
      | Elsewhere differs there ↦ keeps_table.in_table q r there
    ];
    there = λ r q e fresh. elim (chosen region r (Some qid) (qid_of_region past r) q e) [
      | inl p ↦ at_same q qid (Some region) (k.sq_life q) (sym (same_Some qid q p.1)) ∙ ap (λ (x : ℕ). Some x) p.0
      | inr n ↦
          let was = s.lives.there r q n.1 fresh in
          at_other q qid (Some region) (k.sq_life q) (others q r was) ∙ was
    ];
    unopened = λ x un. s.lives.unopened x (keeps_table.used x un);
  } where
    opened : Queue
    opened = record { region = region; cqid = cqid; class = class }

    entry : SqEntry
    entry = record { region = region; cqid = cqid; class = class; closing = false }

    due : IsDue (queue_table rules.start s.tabled.history) (verdict.OpenSq qid region cqid class)
    due = subst (λ (z : Verdict). IsDue (queue_table rules.start s.tabled.history) z) is tells.due

    unused : (k.sq region).queue ≡ None
    unused = s.queues.unused region (ap (λ (t : QueueTable). t.sq_region_used region) s.tabled.table_is ∙ due.unused)

    -- no queue is kept under its identifier
    others : (q r : ℕ) → k.sq_life q ≡ Some r → q ≡ qid → ⊥
    others q r was same =
        let none : k.table.sq q ≡ None = ap k.table.sq same ∙ ap (λ (t : QueueTable). t.sq qid) s.tabled.table_is ∙ due.free in
        true≢false (sym (s.lives.in_table q r was) ∙ ap (λ (o : Option SqEntry). is_on r o) none)

  -- a completion queue is opened
  opens_cq : (qid region : ℕ) → v ≡ verdict.OpenCq qid region
      → HoldsLives (event.OpenCq qid region ∷ taken) (after_admin past now candidate c board (verdict.OpenCq qid region))
  opens_cq qid region is = record {
    sqs = s.lives.sqs;
    deleted = s.lives.deleted;
    cqs = λ q. put_either k.cq_life (open_cq past) qid q (Some region) (s.lives.cqs q);
    not_closed = s.lives.not_closed;
    named = s.lives.named;
    in_table = keeps_table.in_table;
    there = s.lives.there;
    unopened = λ x un.
        let used = queue_table rules.start s.tabled.history in
        let parts = or_false-parts (region == x) (used.cq_region_used x) (ap (λ (w : Verdict). cq_used_after w used.cq_region_used x) (sym is) ∙ sym (used_after_it x) ∙ un) in
        ap (λ (b : Bool). b || is_opened_cq past x) parts.0 ∙ s.lives.unopened x (keeps_table.used x un);
  }

  -- a completion queue is closed, where it is open
  closes_cq : (qid : ℕ) (o : Option ℕ) → open_cq past qid ≡ o → HoldsLives (with_events (closed_cq_of qid o) taken) (after_admin past now candidate c board (CloseCq qid))
  closes_cq qid None none = record {
    sqs = s.lives.sqs;
    deleted = s.lives.deleted;
    cqs = λ q. put_either k.cq_life (open_cq past) qid q None (s.lives.cqs q) ∙ none_more qid q (open_cq past) none;
    not_closed = s.lives.not_closed;
    named = s.lives.named;
    in_table = keeps_table.in_table;
    there = s.lives.there;
    unopened = λ x un. s.lives.unopened x (keeps_table.used x un);
  }
  closes_cq qid (Some region) is = record {
    sqs = s.lives.sqs;
    deleted = s.lives.deleted;
    cqs = λ q. put_either k.cq_life (open_cq past) qid q None (s.lives.cqs q);
    not_closed = s.lives.not_closed;
    named = s.lives.named;
    in_table = keeps_table.in_table;
    there = s.lives.there;
    unopened = λ x un. s.lives.unopened x (keeps_table.used x un);
  }

  -- by the verdict
  by_verdict : (w : Verdict) → v ≡ w → HoldsLives (admin_past past (event.Pick seen pick) w) (after_admin past now candidate c board w)
  by_verdict (Done status dw0) is = plain taken _ pick_same refl refl refl refl
  by_verdict (verdict.OpenSq qid region cqid class) is = opens qid region cqid class is
  by_verdict (verdict.OpenCq qid region) is = opens_cq qid region is
  by_verdict (CloseCq qid) is = closes_cq qid (open_cq past qid) refl
  by_verdict (verdict.SetArbitration settings) is =
      plain (event.SetArbitration settings ∷ taken) _ (record { sqs = λ q. refl; cqs = λ q. refl; closed = λ r. refl; qids = λ r. refl; opened = λ x. refl }) refl refl refl refl
  by_verdict (BeginDelete qid) is = begins qid (open_sq past qid) refl
  by_verdict (verdict.Abort sqid cid) is = aborts sqid cid (target_of past sqid)

-- an admin pick changes them as its verdict says
pub lives-admin : KeepsAdmin Lives
lives-admin rules late past k seen pick picked candidate rest table c board s can observed z one apply chosen =
    by_verdict rules late past k seen pick picked candidate rest table c board s apply (verdict_at rules s.tabled.history candidate) refl
