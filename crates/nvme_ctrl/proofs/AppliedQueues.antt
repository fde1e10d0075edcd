-- What the table, the board and the log say of the queue that an applied admin command is about.
use Rattle.std.proofs.Common.{◌≡◌, ℕ, ◌≤◌, Bool, true, false, if◌then◌else◌, List, [], Option, Some, None, refl, sym, ap, subst, ◌∙◌}
use Rattle.std.specs.Prelude.{option_map, is_some, not}
use Rattle.std.proofs.lemmas.List.{get_or-set_other}
use Rattle.nvme_arbiter.specs.Limits.{highest_qid}
use Rattle.nvme_arbiter.specs.Queues.{queue_at, fewer}
use Rattle.nvme_arbiter.specs.declared.pick.OpenQueue.{OpenQueue}
use Rattle.nvme_arbiter.specs.declared.settings.Class.{Class}
use Rattle.nvme_arbiter.specs.declared.settings.Class.TheVariants.{Admin}
use Rattle.nvme_admin.specs.Accepted.{queue_table, sq_at}
use Rattle.nvme_admin.specs.Changes.{TellsChange, MayOpenSq, MayBeginDelete, sq_after}
use Rattle.nvme_admin.specs.QueueTable.{QueueTable}
use Rattle.nvme_admin.specs.declared.verdict.SqEntry.{SqEntry}
use Rattle.nvme_admin.specs.declared.effect.Effect.{Effect}
use Rattle.nvme_admin.specs.declared.verdict.Verdict.{Verdict}
use Rattle.nvme_admin.specs.declared.verdict.Verdict.TheVariants as verdict
use Rattle.nvme_admin.proofs.Changed.{TellsChange-entry}
use Rattle.nvme_log.specs.Rules.{FrontRules}
use Rattle.nvme_log.specs.Queues.{Queue, open_sq, open_cq}
use Rattle.nvme_log.specs.Laws.{as_open}
use Rattle.nvme_ctrl_log.specs.Notes.{Notes, logged}
use Rattle.nvme_slots.specs.declared.slot.Slot.{Slot}
use Rattle.nvme_ctrl.specs.declared.state.Controller.{Controller}
use Rattle.nvme_ctrl_content.specs.Content.{Content}
use Rattle.nvme_ctrl_content.specs.Standing.{IsAttached, on_board}
use Rattle.nvme_ctrl_content.specs.Steps.{picked_sq, applied_to}
use Rattle.nvme_ctrl.specs.inside.Carrying.{IsApplied}
use Rattle.nvme_ctrl_content.proofs.AdminPick.{other_region}
use Rattle.nvme_ctrl_log.proofs.QueueWords.{at_same, at_other}
use Rattle.nvme_admin.specs.Checks.{is_open}

-- a queue of the table, as an open queue of the log
abbrev pub queue_of : SqEntry → Queue
queue_of e = record { region = e.region; cqid = e.cqid; class = e.class }

-- ---- lists of queues
-- an open queue of the log is one of the table
pub record IsOpenEntry (o : Option SqEntry) (queue : Queue) : Type 0 where
  pub entry : SqEntry
  pub there : o ≡ Some entry
  pub not_closing : entry.closing ≡ false
  pub region : entry.region ≡ queue.region

pub open_entry : (o : Option SqEntry) (queue : Queue) → as_open o ≡ Some queue → IsOpenEntry o queue
open_entry None queue h = absurd (cc h)
open_entry (Some x) queue h = by x.closing refl h where
  by : (b : Bool) → x.closing ≡ b → (if b then None else Some (queue_of x)) ≡ Some queue → IsOpenEntry (Some x) queue
  by true closes e = absurd (cc e)
  by false closes e = record { entry = x; there = refl; not_closing = closes; region = (let same : queue_of x ≡ queue = cc in ap (λ (q : Queue). q.region) same) }

-- ---- the queue that a command is about
module _ (rules : FrontRules) (late : Bool) (notes : Notes) (a : Controller) (slots : List Slot) (tag : ℕ) (did : Effect) (v : Verdict) (h : IsApplied rules late notes a slots tag did v) where
  abbrev applied : Content
  applied = applied_to h.before h.picked h.table

  -- the verdict tells what its command changes
  pub tells : TellsChange rules.start h.holds.tabled.history h.candidate.entry v
  tells = subst (TellsChange rules.start h.holds.tabled.history h.candidate.entry) (sym h.verdict_is) (TellsChange-entry rules.start h.holds.tabled.history h.candidate.entry)

  -- the submission queues of the table, by those before the command
  pub sqs_now : (q : ℕ) → h.table.sq q ≡ sq_after v (sq_at rules.start h.holds.tabled.history) q
  sqs_now q = ap (λ (t : QueueTable). t.sq q) h.can_apply.table_is ∙ tells.sqs q

  -- the queues of the log before the command are those of the table then
  pub sqs_before : (q : ℕ) → open_sq (logged notes) q ≡ as_open (sq_at rules.start h.holds.tabled.history q)
  sqs_before q = h.holds.queues.sqs q ∙ ap as_open (ap (λ (t : QueueTable). t.sq q) h.holds.tabled.table_is)

  module _ (qid : ℕ) (queue : Queue) (was_open : open_sq (logged notes) qid ≡ Some queue) (io : qid ≡ 0 → ⊥) where
    -- its region isn't that of the admin queue
    pub named_apart : queue.region ≡ 0 → ⊥
    named_apart e = other_region rules late (logged notes) h.before [] h.pick h.picked h.holds h.can_pick.is_open h.of_admin qid queue was_open io (sym e)

    -- so the pick left it
    pub named_region : applied.sq queue.region ≡ h.before.sq queue.region
    named_region = at_other queue.region 0 (picked_sq (h.before.sq 0) 1) (h.before.sq queue.region) named_apart

    -- it was opened for the queue
    pub named_attached : IsAttached (logged notes) h.before qid queue
    named_attached = h.holds.queues.attached qid queue was_open

    -- the queue is on the board
    pub named_on_board : queue_at h.picked.queues qid ≡ Some (on_board h.before queue)
    named_on_board =
        let apart : qid ≡ h.pick.qid → ⊥ = λ p. io (p ∙ h.of_admin) in
        ap (λ (queues : List (Option OpenQueue)). queue_at queues qid) h.can_pick.board_queues
        ∙ get_or-set_other h.before.board.queues h.pick.qid qid (option_map (fewer h.pick.n) (queue_at h.before.board.queues h.pick.qid)) None apart
        ∙ h.holds.queues.board qid
        ∙ ap (option_map (on_board h.before)) was_open

-- ---- a submission queue is opened
-- what is there, where a test says so
pub there_is : (o : Option ℕ) → is_some o ≡ true → (x : ℕ) × (o ≡ Some x)
there_is None h = cc h
there_is (Some x) h = (x, refl)

module _ (rules : FrontRules) (late : Bool) (notes : Notes) (a : Controller) (slots : List Slot) (tag qid region cqid : ℕ) (class : Class) (did : Effect)
    (h : IsApplied rules late notes a slots tag did (verdict.OpenSq qid region cqid class)) where
  -- the queue may be opened over the table before the command
  may_open : MayOpenSq (queue_table rules.start h.holds.tabled.history) qid region cqid class
  may_open = (tells rules late notes a slots tag did (verdict.OpenSq qid region cqid class) h).due

  -- the region of its completion queue
  pub posts_to : (x : ℕ) × (open_cq (logged notes) cqid ≡ Some x)
  posts_to =
      there_is (open_cq (logged notes) cqid)
      (ap (λ (o : Option ℕ). is_some o) (h.holds.queues.cqs cqid ∙ ap (λ (t : QueueTable). t.cq cqid) h.holds.tabled.table_is) ∙ may_open.cq_open)

  abbrev pub opens_to : ℕ
  opens_to = posts_to.0

  -- is that of the log
  pub opens_for : open_cq (logged notes) cqid ≡ Some opens_to
  opens_for = posts_to.1

  -- its identifier is one that a board has
  pub opens_within : qid ≤ highest_qid
  opens_within =
      h.can_apply.few_queues qid _
      (sqs_now rules late notes a slots tag did (verdict.OpenSq qid region cqid class) h qid
      ∙ at_same qid qid (Some (record { region = region; cqid = cqid; class = class; closing = false })) (sq_at rules.start h.holds.tabled.history qid) refl)

  -- under which no queue is open on the board
  pub opens_free : queue_at h.picked.queues qid ≡ None
  opens_free =
      let io : qid ≡ h.pick.qid → ⊥ = λ e. may_open.not_admin (e ∙ h.of_admin) in
      let none : h.before.table.sq qid ≡ None = ap (λ (t : QueueTable). t.sq qid) h.holds.tabled.table_is ∙ may_open.free in
      ap (λ (queues : List (Option OpenQueue)). queue_at queues qid) h.can_pick.board_queues
      ∙ get_or-set_other h.before.board.queues h.pick.qid qid (option_map (fewer h.pick.n) (queue_at h.before.board.queues h.pick.qid)) None io
      ∙ h.holds.queues.board qid
      ∙ ap (option_map (on_board h.before)) (h.holds.queues.sqs qid ∙ ap as_open none)

  -- it is no admin queue
  pub opens_io : (class ≡ Admin → qid ≡ 0) × (qid ≡ 0 → class ≡ Admin)
  opens_io = ((λ e. absurd (may_open.class_of_io e)), (λ e. absurd (may_open.not_admin e)))

-- ---- the deletion of a submission queue begins
-- an open queue is there
opened_entry : (o : Option SqEntry) → is_open o ≡ true → (entry : SqEntry) × (o ≡ Some entry) × (as_open o ≡ Some (queue_of entry))
opened_entry None h = cc h
opened_entry (Some entry) h = (entry, refl, by entry.closing h) where
  by : (b : Bool) → not b ≡ true → (if b then None else Some (queue_of entry)) ≡ Some (queue_of entry)
  by true lost = cc lost
  by false was = refl

module _ (rules : FrontRules) (late : Bool) (notes : Notes) (a : Controller) (slots : List Slot) (tag qid : ℕ) (did : Effect)
    (h : IsApplied rules late notes a slots tag did (verdict.BeginDelete qid)) where
  -- the deletion may begin over the table before the command
  may_begin : MayBeginDelete (queue_table rules.start h.holds.tabled.history) qid
  may_begin = (tells rules late notes a slots tag did (verdict.BeginDelete qid) h).due

  pub begins_io : qid ≡ 0 → ⊥
  begins_io = may_begin.not_admin

  -- the queue of the table before the command
  pub begins_before : (entry : SqEntry) × (h.before.table.sq qid ≡ Some entry) × (as_open (h.before.table.sq qid) ≡ Some (queue_of entry))
  begins_before = opened_entry (h.before.table.sq qid) (ap (λ (t : QueueTable). is_open (t.sq qid)) h.holds.tabled.table_is ∙ may_begin.open_sq)

  abbrev pub begins_entry : SqEntry
  begins_entry = begins_before.0

  pub begins_there : h.before.table.sq qid ≡ Some begins_entry
  begins_there = begins_before.1

  -- it was open
  abbrev pub begins_queue : Queue
  begins_queue = queue_of begins_entry

  pub begins_open : open_sq (logged notes) qid ≡ Some begins_queue
  begins_open = h.holds.queues.sqs qid ∙ begins_before.2

-- ---- an Abort command
module _ (rules : FrontRules) (late : Bool) (notes : Notes) (a : Controller) (slots : List Slot) (tag sqid cid : ℕ) (did : Effect)
    (h : IsApplied rules late notes a slots tag did (verdict.Abort sqid cid)) where
  -- it leaves the table
  pub aborts_before : h.before.table.sq sqid ≡ h.table.sq sqid
  aborts_before = ap (λ (t : QueueTable). t.sq sqid) h.holds.tabled.table_is ∙ sym (sqs_now rules late notes a slots tag did (verdict.Abort sqid cid) h sqid)

  -- so the open queue of the log is that of the table
  pub aborts_is : open_sq (logged notes) sqid ≡ as_open (h.table.sq sqid)
  aborts_is = h.holds.queues.sqs sqid ∙ ap as_open aborts_before

  pub aborts_open : (e : SqEntry) → h.table.sq sqid ≡ Some e → e.closing ≡ false → open_sq (logged notes) sqid ≡ Some (queue_of e)
  aborts_open e is not_closing = aborts_is ∙ ap as_open is ∙ ap (λ (b : Bool). if b then None else Some (queue_of e)) not_closing
