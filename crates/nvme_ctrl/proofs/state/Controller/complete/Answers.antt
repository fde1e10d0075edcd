-- What was answered is a command that the device has, whose slot is put behind those that are ready.
use Rattle.std.proofs.Common.{◌≡◌, ℕ, List, ◌∷◌, sym, ap, subst, ◌∙◌, refl, true}
use Rattle.nvme_log.specs.Answers.{Answer}
use Rattle.nvme_ctrl_log.specs.Notes.{Answered, Flagged}
use Rattle.nvme_ctrl.specs.Calls.{HasAnswered}
use Rattle.nvme_ctrl_log.specs.declared.status_flags.StatusFlags.{StatusFlags}
use Rattle.nvme_slots.specs.declared.slot.Slot.{Slot}
use Rattle.nvme_ctrl.specs.declared.state.SqState.{SqState}
use Rattle.nvme_ctrl.specs.declared.state.Controller.{Controller}
use Rattle.nvme_slots.specs.Pool.{slot_at, longer}
use Rattle.nvme_ctrl.specs.kept.State.{sq_at, cq_at}
use Rattle.nvme_ctrl.proofs.AnswerCall.{answered_pool, answered_controller, answer-stands, other_is_not_out, out_is_out}
use Rattle.nvme_slots.proofs.Chains.{IsPushed, is_pushed}
use Rattle.nvme_slots.proofs.Generations.{left_both, put_left, items_left}
use Rattle.nvme_ctrl.specs.kept.QueueSets.{with_queue}
use Rattle.nvme_ctrl.proofs.state.Controller.complete.Goals as goal

pub returns-then-slot-ne-OUT-clause-answer : goal.returns-then-slot-ne-OUT-clause-answer
returns-then-slot-ne-OUT-clause-answer c rules late notes s =
    sym (other_is_not_out rules late notes c.args.self.now c.args.slots.now s c.args.tag
    (λ e. c.if-slot-ne-OUT.true (ap (λ (z : Slot). z.state) c.slot_at-slot.ensures ∙ e)))

pub returns-clause-answer : goal.returns-clause-answer
returns-clause-answer c rules late notes s =
    sym (out_is_out rules late notes c.args.self.now c.args.slots.now s c.args.tag
    (ap (λ (z : Slot). z.state) (sym c.slot_at-slot.ensures) ∙ c.if-slot-ne-OUT.false))

pub returns-clause-stands : goal.returns-clause-stands
returns-clause-stands c rules late notes s is_done =
    let self : Controller = c.args.self.now in
    let slots : List Slot = c.args.slots.now in
    let tag : ℕ = c.args.tag in
    let answer : Answer = record { status = c.args.answer.status; dw0 = c.args.answer.dw0 } in
    let flags : StatusFlags = c.args.answer.flags in
    let x : ℕ = c.sq-cqid.result.cqid in
    let goes : (sq_at self.sqs (slot_at slots tag).sqid).cqid ≡ x =
    ap (λ (z : Slot). (sq_at self.sqs z.sqid).cqid) (sym c.slot_at-slot.ensures) ∙ ap (λ (n : ℕ). (sq_at self.sqs n).cqid) (sym c.from.ensures)
    ∙ ap (λ (q : SqState). q.cqid) (sym c.sq-cqid.ensures) in
    let pool : c.put_ended.new.slots ≡ answered_pool slots tag answer flags = c.put_ended.ensures.slots in
    let done : HasAnswered rules late notes tag answer flags (answered_controller self x (longer (cq_at self.cqs x).ready tag)) c.push_ready.new.slots =
    answer-stands rules late notes self slots s tag (ap (λ (z : Slot). z.state) (sym c.slot_at-slot.ensures) ∙ c.if-slot-ne-OUT.false) answer flags c.put_ended.ensures.few_types
    c.push_ready.new.slots (longer (cq_at self.cqs x).ready tag) x goes
    (subst (λ (new : List Slot). IsPushed new (cq_at self.cqs x).ready tag c.push_ready.new.slots (longer (cq_at self.cqs x).ready tag)) pool
    (is_pushed c.put_ended.new.slots c.push_ready.new.slots (cq_at self.cqs x).ready tag c.push_ready.ensures.slots c.push_ready.ensures.items)) in
    let readied : c.with_queue-self.result ≡ with_queue self.readied x true = c.with_queue-self.ensures ∙ ap (λ (y : Controller). with_queue y.readied x true) c.push_ready.ensures.put in
    subst (λ (y : Controller). HasAnswered rules late notes tag answer flags y c.push_ready.new.slots) (sym (λ j. record (c.push_ready.ensures.put j) { readied = readied j })) done

pub returns-clause-front : goal.returns-clause-front
returns-clause-front c was =
    let now = returns-clause-stands c was.rules was.late was.notes was.stands refl in
    record { rules = was.rules; late = was.late; notes = Flagged now.region now.index c.args.answer.flags ∷ Answered now.region now.index (record { status = c.args.answer.status; dw0 = c.args.answer.dw0 }) ∷ was.notes; stands = now.stands }

pub returns-clause-generations : goal.returns-clause-generations
returns-clause-generations c =
    left_both c.args.slots.now c.put_ended.new.slots c.push_ready.new.slots
    (put_left c.args.slots.now c.put_ended.new.slots c.args.tag _ c.put_ended.ensures.slots refl)
    (items_left c.put_ended.new.slots c.push_ready.new.slots c.push_ready.ensures.items)
