use Rattle.std.proofs.Common.{◌≡◌, ℕ, ◌∙◌, ◌<◌, true, false, sym, subst, arith}
use Rattle.nvme_entry.specs.Status.{StatusCode}
use Rattle.nvme_ctrl.specs.Calls.{HasAnswered}
use Rattle.nvme_slots.specs.Generations.{tag_of}
use Rattle.nvme_capi.specs.Controllers.{is_ctrl, has_slots}
use Rattle.nvme_capi.proofs.Refusals.{no_refusal}
use Rattle.nvme_capi.proofs.SlotsOfTags.{out_under, not_out_under, slot_is, found_slot}
use Rattle.nvme_capi.proofs.ctrl.commands.complete_flagged.Goals as goal

pub returns-then-complete-clause-bad_argument : goal.returns-then-complete-clause-bad_argument
returns-then-complete-clause-bad_argument c =
    no_refusal 0 (is_ctrl c.args.state.now) (has_slots c.args.state.now c.args.slots.now) (7 < c.args.status.now.sct)
    (λ e. (let lost : 0 ≡ 2 = e in omega (arith, lost)))
    (sym c.has_slots.ensures ∙ c.if-not-has_slots.false)
    (λ above. (let lost : true ≡ false = c.in-Some.ensures.none.1 above in cc lost))

pub returns-then-complete-clause-was_out : goal.returns-then-complete-clause-was_out
returns-then-complete-clause-was_out c = λ rules late notes s _.
    out_under notes c.args.slots.now c.args.tag c.in-Some-slot_in.slot (found_slot c.args.slots.now c.args.tag c.of_number.result c.slot_in.result c.in-Some-slot_in.slot c.of_number.ensures c.slot_in.ensures c.in-Some-slot_in.is) (sym (c.complete.ensures.answer rules late notes s) ∙ c.if-complete.true)

pub returns-then-complete-clause-stands : goal.returns-then-complete-clause-stands
returns-then-complete-clause-stands c = λ rules late notes s _.
    subst (λ (code : StatusCode). HasAnswered rules late notes (tag_of c.args.tag).slot (record { status = code; dw0 = c.args.dw0 }) c.args.flags c.complete.new.self c.complete.new.slots)
    c.in-Some.ensures.some
    (subst (λ (slot : ℕ). HasAnswered rules late notes slot (record { status = c.in-Some.status; dw0 = c.args.dw0 }) c.args.flags c.complete.new.self c.complete.new.slots)
    (slot_is c.args.slots.now c.args.tag c.in-Some-slot_in.slot (found_slot c.args.slots.now c.args.tag c.of_number.result c.slot_in.result c.in-Some-slot_in.slot c.of_number.ensures c.slot_in.ensures c.in-Some-slot_in.is)) (c.complete.ensures.stands rules late notes s c.if-complete.true))

pub returns-else-complete-clause-bad_argument : goal.returns-else-complete-clause-bad_argument
returns-else-complete-clause-bad_argument c =
    no_refusal 1 (is_ctrl c.args.state.now) (has_slots c.args.state.now c.args.slots.now) (7 < c.args.status.now.sct)
    (λ e. (let lost : 1 ≡ 2 = e in omega (arith, lost)))
    (sym c.has_slots.ensures ∙ c.if-not-has_slots.false)
    (λ above. (let lost : true ≡ false = c.in-Some.ensures.none.1 above in cc lost))

pub returns-else-complete-clause-nothing : goal.returns-else-complete-clause-nothing
returns-else-complete-clause-nothing c = λ rules late notes s _.
    not_out_under notes c.args.slots.now c.args.tag c.in-Some-slot_in.slot (found_slot c.args.slots.now c.args.tag c.of_number.result c.slot_in.result c.in-Some-slot_in.slot c.of_number.ensures c.slot_in.ensures c.in-Some-slot_in.is) (sym (c.complete.ensures.answer rules late notes s) ∙ c.if-complete.false)

pub returns-else-complete-clause-unchanged : goal.returns-else-complete-clause-unchanged
returns-else-complete-clause-unchanged c = λ _. (let h = c.complete.ensures.refused c.if-complete.false in ((λ i. record c.args.state.now { ctrl = h.0 i }), h.1))

pub returns-then-complete-clause-kept : goal.returns-then-complete-clause-kept
returns-then-complete-clause-kept c = λ k. record { front = λ m n. c.complete.ensures.front (k.front m (sym c.has_slots.ensures ∙ c.if-not-has_slots.false)) }

pub returns-else-complete-clause-kept : goal.returns-else-complete-clause-kept
returns-else-complete-clause-kept c = λ k. record { front = λ m n. c.complete.ensures.front (k.front m (sym c.has_slots.ensures ∙ c.if-not-has_slots.false)) }
