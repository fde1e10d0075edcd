use Rattle.std.proofs.Common.{Option, not, true≢false, sym, ap, ◌∙◌, subst}
use Rattle.std.specs.Prelude.{is_some}
use Rattle.nvme_log.specs.Queues.{Queue, open_sq}
use Rattle.nvme_ctrl_log.specs.Notes.{logged}
use Rattle.nvme_ctrl_log.specs.Waits.{WaitsAt}
use Rattle.nvme_slots.specs.declared.slot.Slot.{Slot}
use Rattle.nvme_ctrl.specs.kept.Kept.{tags_of}
use Rattle.nvme_ctrl.proofs.WaitingNames.{some_open}
use Rattle.nvme_ctrl.proofs.WaitingPlaces.{waiting_chain, waits_at, none_at}
use Rattle.nvme_ctrl.proofs.state.Controller.waits.Goals as goal

pub returns-clause-some : goal.returns-clause-some
returns-clause-some c rules late notes s =
    let self = c.args.self.now in
    let slots = c.args.slots.now in
    let told = c.sq_region.ensures.told rules late notes slots s in
    let at = some_open (open_sq (logged notes) c.args.qid) (sym told ∙ c.is_none.ensures ∙ ap not c.if-is_none.false) in
    let chain = waiting_chain rules late notes self slots s c.args.qid at.queue at.is in
    subst (λ (slot : Slot). WaitsAt notes c.args.qid c.args.n slot.entry slot.cookie) (sym c.slot_at-slot.ensures)
    (waits_at rules late notes self slots s c.args.qid at.queue at.is c.args.n c.in_ok-tag.tag
    (sym c.in_ok-tag.was ∙ c.waiting_slot.ensures (tags_of (s.items.windows at.queue.region)) chain))

pub returns-then-is_none-clause-none : goal.returns-then-is_none-clause-none
returns-then-is_none-clause-none c rules late notes s none queue opened =
    let told = c.sq_region.ensures.told rules late notes c.args.slots.now s ∙ ap (λ (o : Option Queue). is_some o) opened in
    absurd (true≢false (sym told ∙ c.is_none.ensures ∙ ap not c.if-is_none.true))

pub returns-in_err-tag-clause-none : goal.returns-in_err-tag-clause-none
returns-in_err-tag-clause-none c rules late notes s none queue opened =
    let self = c.args.self.now in
    let slots = c.args.slots.now in
    let chain = waiting_chain rules late notes self slots s c.args.qid queue opened in
    none_at rules late notes self slots s c.args.qid queue opened c.args.n
    (sym c.in_err-tag.was ∙ c.waiting_slot.ensures (tags_of (s.items.windows queue.region)) chain)
