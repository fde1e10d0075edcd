-- What an applied admin command opens and closes: a queue under an identifier, and on a region, that none has, and a completion queue to which none posts.
use Rattle.std.proofs.Common.{◌≡◌, ◌≢◌, ℕ, ◌<◌, ◌&&◌, Bool, false, not, List, [], filter, length, Option, Some, None, refl, sym, ap, ◌∙◌, arith, inl, inr, true≢false}
use Rattle.std.specs.Prelude.{is_some, option_map}
use Rattle.std.proofs.lemmas.Bool.{cases_lt, ne_eqb}
use Rattle.std.proofs.lemmas.List.{length-map, nil_from_length, get_or_past}
use Rattle.std.proofs.lemmas.Option.{none-some, same_Some}
use Rattle.nvme_entry.specs.AdminCommand.{admin_command_of}
use Rattle.nvme_entry.specs.declared.submission.Sqe.{Sqe}
use Rattle.nvme_arbiter.specs.declared.settings.Class.{Class}
use Rattle.nvme_admin.specs.Accepted.{queue_table, sq_at, cq_at}
use Rattle.nvme_admin.specs.Changes.{MayOpenSq, MayOpenCq, MayCloseCq}
use Rattle.nvme_admin.specs.QueueTable.{QueueTable}
use Rattle.nvme_admin.specs.declared.bounds.TheConstants.{MAX_REGIONS}
use Rattle.nvme_admin.specs.declared.verdict.SqEntry.{SqEntry}
use Rattle.nvme_admin.specs.declared.effect.Effect.{Effect}
use Rattle.nvme_admin.specs.declared.verdict.Verdict.TheVariants as verdict
use Rattle.nvme_admin.specs.Standing.{TableView, cq_of}
use Rattle.nvme_placing.specs.Telling.{content_of}
use Rattle.nvme_log.specs.Rules.{FrontRules, upto, sq_regions_of, cq_regions_of}
use Rattle.nvme_log.specs.Queues.{admin_queue, open_cq, cq_region_of}
use Rattle.nvme_log.specs.Places.{fate_of, fetched, is_waiting}
use Rattle.nvme_log.specs.Completions.{is_posted, unposted_of}
use Rattle.nvme_ctrl_log.specs.Notes.{Notes, logged}
use Rattle.nvme_slots.specs.declared.slot.Slot.{Slot}
use Rattle.nvme_ctrl.specs.declared.state.Controller.{Controller}
use Rattle.nvme_ctrl_content.specs.Content.{Attachment, PendingDelete, SqContent, Content, Ready}
use Rattle.nvme_ctrl.specs.kept.Kept.{ReadyItem, IsSqOf}
use Rattle.nvme_ctrl_content.specs.Standing.{is_on}
use Rattle.nvme_ctrl_log.specs.Regions.{is_opened_cq}
use Rattle.nvme_ctrl_content.specs.Steps.{applied_to, picked_sq}
use Rattle.nvme_ctrl.specs.inside.Carrying.{IsApplied}
use Rattle.nvme_ctrl_content.specs.Carrying.{IsOpenable, IsCqOpenable, IsUnattached, closing_cq}
use Rattle.nvme_ctrl_log.specs.Making.{slots_asked}
use Rattle.nvme_ctrl_content.proofs.AfterSteps.{closing_from}
use Rattle.nvme_ctrl.proofs.AppliedQueues.{tells, sqs_now, there_is, opens_to, opens_for, opens_within}
use Rattle.nvme_ctrl_log.proofs.AskedSlots.{HasAsked}
use Rattle.nvme_ctrl_content.proofs.AskedSlots.{asked_sq, asked_cq}
use Rattle.nvme_ctrl_log.proofs.LifeLaws.{opened_was}
use Rattle.nvme_ctrl_content.proofs.LifeLaws.{none_ready_unattached, closes_io, none_attached}
use Rattle.nvme_ctrl_log.proofs.QueueWords.{at_same, at_other}
use Rattle.nvme_ctrl_content.proofs.QueueWords.{put-queue}
use Rattle.nvme_ctrl_content.proofs.ReadyAdmin.{unused_unnamed}

-- ---- a submission queue is opened
module _ (rules : FrontRules) (late : Bool) (notes : Notes) (a : Controller) (slots : List Slot) (tag qid region cqid : ℕ) (class : Class) (did : Effect)
    (h : IsApplied rules late notes a slots tag did (verdict.OpenSq qid region cqid class)) where
  abbrev k : Content
  k = applied_to h.before h.picked h.table

  -- the queue may be opened over the table before the command
  may : MayOpenSq (queue_table rules.start h.holds.tabled.history) qid region cqid class
  may = (tells rules late notes a slots tag did (verdict.OpenSq qid region cqid class) h).due

  -- its region was opened for none
  unused : (h.before.sq region).queue ≡ None
  unused = h.holds.queues.unused region (ap (λ (t : QueueTable). t.sq_region_used region) h.holds.tabled.table_is ∙ may.unused)

  -- and isn't the admin queue's
  other : region ≢ 0
  other e =
      let admin = h.holds.queues.attached h.pick.qid admin_queue h.can_pick.is_open in
      none-some _ (sym unused ∙ ap (λ (r : ℕ). (h.before.sq r).queue) e ∙ admin.attached)

  -- so the pick left it
  left : k.sq region ≡ h.before.sq region
  left = at_other region 0 (picked_sq (h.before.sq 0) 1) (h.before.sq region) other

  -- the slots that it asks for
  asked : HasAsked (sq_regions_of rules) region (admin_command_of h.candidate.entry)
  asked = asked_sq rules late (logged notes) h.before h.holds h.candidate h.can_apply.placed qid region cqid class (sym h.verdict_is)

  -- no queue is kept under its identifier
  no_queue : (o : Option ℕ) → h.before.sq_life qid ≡ o → o ≡ None
  no_queue None is = refl
  no_queue (Some r) is =
      let none : h.before.table.sq qid ≡ None = ap (λ (t : QueueTable). t.sq qid) h.holds.tabled.table_is ∙ may.free in
      absurd (true≢false (sym (h.holds.lives.in_table qid r is) ∙ ap (λ (o : Option SqEntry). is_on r o) none))

  -- nor on its region
  no_region : (o : Option ℕ) → h.before.sq_id region ≡ o → o ≡ None
  no_region None is = refl
  no_region (Some q) is =
      absurd (unused_unnamed rules late (logged notes) h.before h.holds region may.unused region q (h.holds.lives.named q region (h.keeps.numbers.sqs.ids.lives_are region q is)) refl)

  -- nor is one deleted
  no_deletion : (o : Option PendingDelete) → h.before.deletion region ≡ o → o ≡ None
  no_deletion None is = refl
  no_deletion (Some d) is =
      let p = h.holds.deletion.stands region d is in
      let o = h.holds.queues.deleting region d is in
      absurd (none-some _ (sym unused ∙ ap (λ (r : ℕ). (h.before.sq r).queue) (sym p.at) ∙ o.opened))

  -- nothing was fetched from it
  none_fetched : fetched (logged notes) region ≡ []
  none_fetched = (h.holds.regions region).fetched_is ∙ (h.holds.queues.unopened region unused).nothing_got

  -- so nothing is unposted
  none_unposted : unposted_of (logged notes) region ≡ 0
  none_unposted = ap (λ (es : List Sqe). length (filter (λ (i : ℕ). not (is_waiting (fate_of (logged notes) region i)) && not (is_posted (logged notes) region i)) (upto (length es)))) none_fetched

  pub opens_openable : IsOpenable rules notes k qid (slots_asked (admin_command_of h.candidate.entry)) cqid region (opens_to rules late notes a slots tag qid region cqid class did h)
  opens_openable = record {
    entry = record { region = region; cqid = cqid; class = class; closing = false };
    in_table = sqs_now rules late notes a slots tag did (verdict.OpenSq qid region cqid class) h qid
        ∙ at_same qid qid (Some (record { region = region; cqid = cqid; class = class; closing = false })) (sq_at rules.start h.holds.tabled.history qid) refl;
    on = refl;
    to = refl;
    few = omega (arith, opens_within rules late notes a slots tag qid region cqid class did h);
    no_queue = no_queue (h.before.sq_life qid) refl;
    no_life = no_region (h.before.sq_id region) refl;
    unopened = ap (λ (x : SqContent). x.queue) left ∙ unused;
    nothing_fetched = none_fetched;
    none_unposted = ap (λ (x : SqContent). x.unposted) left ∙ h.holds.counts.unposted region ∙ none_unposted;
    undeleted = no_deletion (h.before.deletion region) refl;
    size_is = sym asked.slots ∙ h.holds.tabled.sq_slots region ∙ ap (λ (x : SqContent). x.slots) (sym left);
    some = asked.some;
    cq_open = h.holds.lives.cqs cqid ∙ opens_for rules late notes a slots tag qid region cqid class did h;
  }

-- ---- a completion queue is opened
module _ (rules : FrontRules) (late : Bool) (notes : Notes) (a : Controller) (slots : List Slot) (tag qid region : ℕ) (did : Effect)
    (h : IsApplied rules late notes a slots tag did (verdict.OpenCq qid region)) where
  abbrev now : Content
  now = applied_to h.before h.picked h.table

  -- the queue may be opened over the table before the command
  may_cq : MayOpenCq (queue_table rules.start h.holds.tabled.history) qid region
  may_cq = (tells rules late notes a slots tag did (verdict.OpenCq qid region) h).due

  -- its identifier is one that a table has
  within : qid < 65
  within = elim (cases_lt qid MAX_REGIONS) [
    | inl below ↦ below
    | inr beyond ↦
        let v : TableView = content_of a.table in
        let nothing : cq_of v qid ≡ None = get_or_past v.cqs qid None (omega (arith, beyond, h.keeps.numbers.tells.sized.cqs)) in
        let here : h.table.cq qid ≡ Some region =
        ap (λ (t : QueueTable). t.cq qid) h.can_apply.table_is ∙ (tells rules late notes a slots tag did (verdict.OpenCq qid region) h).cqs qid
        ∙ at_same qid qid (Some region) (cq_at rules.start h.holds.tabled.history qid) refl in
        absurd (true≢false (ap (λ (o : Option ℕ). is_some o) (sym here) ∙ sym (h.keeps.numbers.tells.cq qid) ∙ ap (λ (o : Option ℕ). is_some o) nothing))
  ]

  -- none was opened on its region
  fresh : is_opened_cq (logged notes) region ≡ false
  fresh = h.holds.lives.unopened region (ap (λ (t : QueueTable). t.cq_region_used region) h.holds.tabled.table_is ∙ may_cq.unused)

  -- so none is kept there
  no_cq_region : (o : Option ℕ) → h.before.cq_id region ≡ o → o ≡ None
  no_cq_region None is = refl
  no_cq_region (Some q) is =
      absurd (true≢false (sym (opened_was (logged notes) region q (sym (h.holds.lives.cqs q) ∙ h.keeps.numbers.cqs.ids.lives_are region q is)) ∙ fresh))

  -- the slots that it asks for
  asked_there : HasAsked (cq_regions_of rules) region (admin_command_of h.candidate.entry)
  asked_there = asked_cq rules late (logged notes) h.before h.holds h.candidate h.can_apply.placed qid region (sym h.verdict_is)

  pub opens_cq_openable : IsCqOpenable rules notes now qid (slots_asked (admin_command_of h.candidate.entry)) region
  opens_cq_openable = record {
    few = within;
    no_queue = h.holds.lives.cqs qid ∙ h.holds.queues.cqs qid ∙ ap (λ (t : QueueTable). t.cq qid) h.holds.tabled.table_is ∙ may_cq.free;
    no_life = no_cq_region (h.before.cq_id region) refl;
    unopened = fresh;
    size_is = sym asked_there.slots ∙ h.holds.tabled.cq_slots region;
    some = asked_there.some;
  }

-- ---- a completion queue is closed
module _ (rules : FrontRules) (late : Bool) (notes : Notes) (a : Controller) (slots : List Slot) (tag qid : ℕ) (did : Effect)
    (h : IsApplied rules late notes a slots tag did (verdict.CloseCq qid)) where
  abbrev then : Content
  then = applied_to h.before h.picked h.table

  -- it is open
  may_close : MayCloseCq (queue_table rules.start h.holds.tabled.history) qid
  may_close = (tells rules late notes a slots tag did (verdict.CloseCq qid) h).due

  pub is_on_region : (x : ℕ) × (open_cq (logged notes) qid ≡ Some x)
  is_on_region =
      there_is (open_cq (logged notes) qid)
      (ap (λ (o : Option ℕ). is_some o) (h.holds.queues.cqs qid ∙ ap (λ (t : QueueTable). t.cq qid) h.holds.tabled.table_is) ∙ may_close.open_cq)

  -- on its region
  abbrev pub closes_region : ℕ
  closes_region = is_on_region.0

  pub closes_log : open_cq (logged notes) qid ≡ Some closes_region
  closes_log = is_on_region.1

  pub closes_open : then.cq_life qid ≡ Some closes_region
  closes_open = h.holds.lives.cqs qid ∙ closes_log

  -- so what its command leaves is without it
  pub closes_is : closing_from then qid (open_cq (logged notes) qid) ≡ closing_cq then qid closes_region
  closes_is = ap (closing_from then qid) closes_log

  -- no queue of the table is attached to it
  pub closes_unattached : IsUnattached then qid closes_region
  closes_unattached = record {
    io = ne_eqb qid 0 (closes_io rules late (logged notes) h.before h.candidate h.rest h.table h.holds h.can_apply qid (sym h.verdict_is));
    none = none_attached rules late (logged notes) h.before h.candidate h.rest h.table h.holds h.can_apply qid (sym h.verdict_is);
  }

  -- so none posts to its region
  none_posts : (q r : ℕ) → h.before.sq_life q ≡ Some r → cq_region_of (logged notes) r ≢ Some closes_region
  none_posts q r is to =
      let w : IsSqOf a then q r = h.keeps.numbers.sqs.each q r is in
      let opened : (h.before.sq r).queue ≡ Some (record { qid = q; cq_region = w.cq_region }) = sym (put-queue h.before.sq 0 (picked_sq (h.before.sq 0) 1) refl r) ∙ w.opened in
      let there : cq_region_of (logged notes) r ≡ Some w.cq_region = h.holds.queues.cq_region_is r ∙ ap (option_map (λ (x : Attachment). x.cq_region)) opened in
      let same : w.cq_region ≡ closes_region = same_Some w.cq_region closes_region (sym there ∙ to) in
      let one = h.keeps.numbers.cqs.ids.ids_are _ w.cq_region w.cq_open in
      let two = h.keeps.numbers.cqs.ids.ids_are qid closes_region closes_open in
      closes_unattached.none q w.entry w.in_table (w.to ∙ same_Some _ qid (sym one ∙ ap h.before.cq_id same ∙ two))

  -- and nothing is ready in it
  pub closes_ready : h.items.readies closes_region ≡ []
  closes_ready =
      let none : (h.before.cq closes_region).ready ≡ [] = none_ready_unattached rules late (logged notes) h.before h.holds closes_region none_posts in
      nil_from_length (h.items.readies closes_region)
      (sym (length-map (h.items.readies closes_region) (λ (x : ReadyItem). x.ready)) ∙ ap (λ (ts : List Ready). length ts) (sym (h.keeps.has.readies.are closes_region) ∙ none))
