-- The effect of an Abort command, carried out.
use Rattle.nvme_ctrl_content.proofs.OpenQueues.{io_region}
use Rattle.std.proofs.lemmas.Bool.{ne_eqb}
use Rattle.std.proofs.Common.{◌≡◌, ℕ, ◌==◌, ◌&&◌, ◌||◌, ◌≤◌, Bool, true, false, if◌then◌else◌, List, [], ◌∷◌, length, Option, Some, None, refl, sym, ap, ◌∙◌, subst, arith, eq-eqb}
use Rattle.std.specs.Prelude.{slice_set}
use Rattle.std.proofs.lemmas.Option.{same_Some}
use Rattle.nvme_admin.specs.declared.verdict.SqEntry.{SqEntry}
use Rattle.nvme_admin.specs.declared.verdict.Verdict.{Verdict}
use Rattle.nvme_admin.specs.declared.effect.Effect.{Effect}
use Rattle.nvme_admin.specs.declared.verdict.Verdict.TheVariants as verdict
use Rattle.nvme_entry.specs.Status.{success}
use Rattle.nvme_log.specs.declared.event.Event.{Event}
use Rattle.nvme_log.specs.declared.event.Event.TheVariants as event
use Rattle.nvme_log.specs.Rules.{FrontRules, Past}
use Rattle.nvme_log.specs.Queues.{Queue, admin_queue, open_sq}
use Rattle.nvme_log.specs.Places.{is_aborted}
use Rattle.nvme_log.specs.Effects.{abort_in, target_of}
use Rattle.nvme_ctrl_log.specs.Notes.{Notes, logged}
use Rattle.nvme_ctrl_log.specs.Observation.{observed_of}
use Rattle.nvme_ctrl.specs.Steps.{HasCarriedOut}
use Rattle.nvme_slots.specs.declared.slot.Slot.{Slot}
use Rattle.nvme_ctrl.specs.declared.state.Controller.{Controller}
use Rattle.nvme_ctrl_content.specs.Content.{Candidate, SqContent, Content, with_ready}
use Rattle.nvme_ctrl_content.specs.Steps.{oldest_named, without_oldest}
use Rattle.nvme_ctrl.specs.kept.Kept.{Items}
use Rattle.nvme_ctrl_content.specs.Standing.{counted_on}
use Rattle.nvme_ctrl.specs.inside.Loose.{IsLoose, Keeps}
use Rattle.nvme_ctrl.specs.inside.Carrying.{IsApplied, HasRequested}
use Rattle.nvme_ctrl_content.specs.Carrying.{HasNoneNamed, IsAbortableIn, IsAbortable, requesting}
use Rattle.nvme_ctrl_content.proofs.AfterSteps.{IsChosen, IsAbortChosen, after_admin, told_abort, aborting_from, aborting_in}
use Rattle.nvme_ctrl_log.proofs.LaterEvents.{with_events}
use Rattle.nvme_ctrl.proofs.AppliedQueues.{queue_of, IsOpenEntry, open_entry, named_region, named_attached, named_on_board, aborts_is, aborts_open}
use Rattle.nvme_ctrl.proofs.CarriedOut.{applied, logged_is, keeps_told}
use Rattle.nvme_ctrl.proofs.CarryOut.{KeepsEnd, told_notes, ended_told}
use Rattle.nvme_ctrl.proofs.PoolBounds.{beside_held, windows_held}
use Rattle.nvme_ctrl_content.proofs.Named.{made_abort}

-- the queue that it names is an open one, and not the admin queue
target_open : (past : Past) (sqid : ℕ) (queue : Queue) → target_of past sqid ≡ Some queue → (sqid ≡ 0 → ⊥) × (open_sq past sqid ≡ Some queue)
target_open past sqid queue h = by (sqid == 0) refl h where
  by : (b : Bool) → (sqid == 0) ≡ b → (if b then None else open_sq past sqid) ≡ Some queue → (sqid ≡ 0 → ⊥) × (open_sq past sqid ≡ Some queue)
  by true e is = absurd (cc is)
  by false e is = ((λ z. let no = sym (eq-eqb sqid 0 z) ∙ e in cc no), is)

-- so one of an I/O queue is that which is open
pub target_is : (past : Past) (sqid : ℕ) → (sqid ≡ 0 → ⊥) → target_of past sqid ≡ open_sq past sqid
target_is past sqid io = ap (λ (b : Bool). if b then None else open_sq past sqid) (ne_eqb sqid 0 io)

-- a window with a candidate that is named has one
some_named : (cid : ℕ) (cs : List Candidate) (found : Candidate) → oldest_named cid cs ≡ Some found → 1 ≤ length cs
some_named cid [] found is = absurd (cc is)
some_named cid (c ∷ cs) found is = omega arith

module _ (rules : FrontRules) (late : Bool) (notes : Notes) (a : Controller) (slots : List Slot) (tag sqid cid : ℕ) (did : Effect)
    (h : IsApplied rules late notes a slots tag did (verdict.Abort sqid cid)) where
  abbrev v : Verdict
  v = verdict.Abort sqid cid

  abbrev k : Content
  k = applied rules late notes a slots tag did v h

  abbrev told : Notes
  told = told_notes rules late notes a slots tag did v h success 0

  -- ---- an open queue of the table
  module _ (io : sqid ≡ 0 → ⊥) (e : SqEntry) (is : h.table.sq sqid ≡ Some e) (not_closing : e.closing ≡ false) where
    was_open : open_sq (logged notes) sqid ≡ Some (queue_of e)
    was_open = aborts_open rules late notes a slots tag sqid cid did h e is not_closing

    left : k.sq e.region ≡ h.before.sq e.region
    left = named_region rules late notes a slots tag did v h sqid (queue_of e) was_open io

    abbrev opened : ℕ
    opened = (named_attached rules late notes a slots tag did v h sqid (queue_of e) was_open io).cq_region

    attached : (h.before.sq e.region).queue ≡ Some (record { qid = sqid; cq_region = opened })
    attached = (named_attached rules late notes a slots tag did v h sqid (queue_of e) was_open io).attached

    target : target_of (logged notes) sqid ≡ Some (queue_of e)
    target = target_is (logged notes) sqid io ∙ was_open

    -- the candidate that is found is aborted
    found_aborted : (found : Candidate) → oldest_named cid (k.sq e.region).window ≡ Some found → is_aborted (logged told) e.region found.index ≡ true
    found_aborted found oldest =
        let made : logged told ≡ event.Abort e.region found.index ∷ event.Pick (observed_of notes) h.pick ∷ logged notes =
        logged_is rules late notes a slots tag did v h
        ∙ ap (λ (es : List Event). with_events es (event.Pick (observed_of notes) h.pick ∷ logged notes))
        (ap (abort_in (logged notes) cid) target
        ∙ made_abort (logged notes) cid (queue_of e) (h.before.sq e.region) found (h.holds.regions e.region) (ap (λ (s : SqContent). oldest_named cid s.window) (sym left) ∙ oldest)) in
        let here : (e.region == e.region && found.index == found.index) ≡ true = rw (eq-eqb e.region e.region refl, eq-eqb found.index found.index refl) refl in
        ap (λ (p : Past). is_aborted p e.region found.index) made
        ∙ ap (λ (b : Bool). b || is_aborted (logged notes) e.region found.index) here

    abortable : IsAbortableIn told k sqid cid e
    abortable =
        let before : Content = h.before in
        let there = h.holds.queues.sq_there e.region (record { qid = sqid; cq_region = opened }) attached in
        let admin = h.holds.queues.attached h.pick.qid admin_queue h.can_pick.is_open in
        let first = h.holds.queues.sq_there 0 (record { qid = h.pick.qid; cq_region = admin.cq_region }) admin.attached in
        let apart = io_region rules late (logged notes) before h.holds e.region sqid opened attached io in
        let waits = h.can_pick.enough in
        let held = beside_held rules late (logged notes) before h.holds e.region 0 there first apart in
        let both = windows_held rules late (logged notes) before h.holds e.region 0 there first apart in
        let same = ap (λ (s : SqContent). s.unposted) left in
        record {
          there = h.holds.lives.sqs sqid (queue_of e) was_open;
          io = ne_eqb e.region 0 (io_region rules late (logged notes) h.before h.holds e.region sqid opened attached io);
          c = opened;
          attached = ap (λ (s : SqContent). s.queue) left ∙ attached;
          is_aborted = found_aborted;
          on_board = named_on_board rules late notes a slots tag did v h sqid (queue_of e) was_open io
              ∙ ap (λ (s : SqContent). Some (counted_on h.before (queue_of e) (length s.window))) (sym left);
          few_unposted = omega (arith, held, same, waits, h.one, h.keeps.tags.free_count, h.keeps.has.few);
          few_outstanding = λ found oldest.
              let some = some_named cid (before.sq e.region).window found (ap (λ (s : SqContent). oldest_named cid s.window) (sym left) ∙ oldest) in
              omega (arith, both, some, waits, h.one, h.keeps.tags.free_count, h.keeps.has.few);
        }

  may_abort : IsAbortable told k sqid cid
  may_abort e io is not_closing = abortable io e is not_closing

  -- ---- where none is found
  none_there : HasNoneNamed k sqid cid → (queue : Queue) → target_of (logged notes) sqid ≡ Some queue
      → (oldest_named cid (k.sq queue.region).window ≡ None) × (oldest_named cid (h.before.sq queue.region).window ≡ None)
  none_there none queue is =
      let target = target_open (logged notes) sqid queue is in
      let open_now : IsOpenEntry (h.table.sq sqid) queue = open_entry (h.table.sq sqid) queue (sym (aborts_is rules late notes a slots tag sqid cid did h) ∙ target.1) in
      let now : oldest_named cid (k.sq queue.region).window ≡ None =
      subst (λ (r : ℕ). oldest_named cid (k.sq r).window ≡ None) open_now.region (none open_now.entry target.0 open_now.there open_now.not_closing) in
      (now, subst (λ (s : SqContent). oldest_named cid s.window ≡ None) (named_region rules late notes a slots tag did v h sqid queue target.1 target.0) now)

  none_after : HasNoneNamed k sqid cid → after_admin (logged notes) k h.candidate 0 h.picked (verdict.Abort sqid cid) ≡ with_ready k 0 (told_abort h.candidate 1)
  none_after none = by (target_of (logged notes) sqid) (none_there none) where
    by : (o : Option Queue) → ((queue : Queue) → o ≡ Some queue → (oldest_named cid (k.sq queue.region).window ≡ None) × (oldest_named cid (h.before.sq queue.region).window ≡ None))
        → aborting_from k h.candidate sqid 0 cid h.picked o ≡ with_ready k 0 (told_abort h.candidate 1)
    by None it = refl
    by (Some queue) it = ap (aborting_in k h.candidate sqid queue.region 0 cid h.picked) (it queue refl).0

  -- it is answered so
  pub ended_none : HasNoneNamed k sqid cid → (b : Controller) (pool : List Slot) → KeepsEnd a slots tag success 1 b pool → HasCarriedOut rules late notes v b pool
  ended_none none b pool end =
      ended_told rules late notes a slots tag did v h k success 1 0 h.picked
      (λ queue found is_target is_oldest. let no = sym (none_there none queue is_target).1 ∙ is_oldest in absurd (cc no))
      (none_after none) refl a slots h.items (keeps_told rules late notes a slots tag did v h (record { status = success; dw0 = 1 })) h.loose refl b pool end

  -- ---- where one is found
  pub ended_found : (m : Controller) (mid : List Slot) → HasRequested rules told k sqid cid slots tag m mid → (b : Controller) (pool : List Slot) → KeepsEnd m mid tag success 0 b pool
      → HasCarriedOut rules late notes v b pool
  ended_found m mid t b pool end =
      ended_told rules late notes a slots tag did v h (requesting k sqid t.entry.region t.c cid t.board t.found) success 0 t.c t.board chosen after refl
      m mid t.items t.keeps t.loose t.slot b pool end where
        region : k.sq t.entry.region ≡ h.before.sq t.entry.region
        region = left t.io t.entry t.in_table t.not_closing

        after : after_admin (logged notes) k h.candidate t.c t.board (verdict.Abort sqid cid) ≡ with_ready (requesting k sqid t.entry.region t.c cid t.board t.found) 0 (told_abort h.candidate 0)
        after =
            ap (aborting_from k h.candidate sqid t.c cid t.board) (target t.io t.entry t.in_table t.not_closing)
            ∙ ap (aborting_in k h.candidate sqid t.entry.region t.c cid t.board) t.oldest

        chosen : IsChosen rules (logged notes) h.before t.c h.picked t.board (verdict.Abort sqid cid)
        chosen queue found is_target is_oldest =
            subst (λ (q : Queue). IsAbortChosen rules h.before sqid cid t.c h.picked t.board q) (same_Some (queue_of t.entry) queue (sym (target t.io t.entry t.in_table t.not_closing) ∙ is_target)) (record {
              attached = ap (λ (s : SqContent). s.queue) (sym region) ∙ t.attached;
              queues = t.queues
                  ∙ ap (λ (s : SqContent). slice_set h.picked.queues sqid (Some (counted_on h.before (queue_of t.entry) (length (without_oldest cid s.window))))) region;
              stands = λ past stands. t.stands rules.mechanism rules.start.settings past stands;
            })

  -- ---- as it was carried out
  -- a candidate was aborted
  pub carried_found : (m : Controller) (mid : List Slot) (found : Bool) (dw0 : ℕ)
      → ((rules : FrontRules) (notes : Notes) (k : Content) (g : Items) (y : ℕ) → found ≡ true → Keeps rules notes a slots k g → a.picked ≡ 0 → IsAbortable notes k sqid cid → IsLoose slots g y
      → HasRequested rules notes k sqid cid slots y m mid)
      → found ≡ true → dw0 ≡ 0 → (b : Controller) (pool : List Slot) → KeepsEnd m mid tag success dw0 b pool → HasCarriedOut rules late notes v b pool
  carried_found m mid found dw0 aborted is zero b pool end =
      ended_found m mid
      (aborted rules told k h.items tag is (keeps_told rules late notes a slots tag did v h (record { status = success; dw0 = 0 })) h.none_picked may_abort h.loose)
      b pool (subst (λ (n : ℕ). KeepsEnd m mid tag success n b pool) zero end)

  -- none was there
  pub carried_none : (m : Controller) (mid : List Slot) (found : Bool) (dw0 : ℕ)
      → (found ≡ false → (m ≡ a) × (mid ≡ slots))
      → ((rules : FrontRules) (notes : Notes) (k : Content) (g : Items) → found ≡ false → Keeps rules notes a slots k g → a.picked ≡ 0 → IsAbortable notes k sqid cid → HasNoneNamed k sqid cid)
      → found ≡ false → dw0 ≡ 1 → (b : Controller) (pool : List Slot) → KeepsEnd m mid tag success dw0 b pool → HasCarriedOut rules late notes v b pool
  carried_none m mid found dw0 same none is one b pool end =
      ended_none (none rules told k h.items is (keeps_told rules late notes a slots tag did v h (record { status = success; dw0 = 0 })) h.none_picked may_abort) b pool
      (subst (λ (n : ℕ). KeepsEnd a slots tag success n b pool) one
      (subst (λ (z : Controller). KeepsEnd z slots tag success dw0 b pool) (same is).0
      (subst (λ (z : List Slot). KeepsEnd m z tag success dw0 b pool) (same is).1 end)))
