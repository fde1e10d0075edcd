use Rattle.std.proofs.Common.{◌∙◌, sym, ap}
use Rattle.nvme_ctrl_log.specs.Tags.{holder}
use Rattle.nvme_capi.proofs.SlotsOfTags.{out_under, not_out_under, slot_is, found_slot}
use Rattle.nvme_capi.proofs.ctrl.lookups.nvmearb_ctrl_command.Goals as goal

pub returns-then-not-is_out-clause-nothing : goal.returns-then-not-is_out-clause-nothing
returns-then-not-is_out-clause-nothing c = λ rules late notes s _.
    not_out_under notes c.args.slots.now c.args.tag c.in-Some.slot (found_slot c.args.slots.now c.args.tag c.of_number.result c.slot_in.result c.in-Some.slot c.of_number.ensures c.slot_in.ensures c.in-Some.is) (sym (c.is_out.ensures rules late notes s) ∙ c.if-not-is_out.true)

pub returns-clause-out : goal.returns-clause-out
returns-clause-out c = λ rules late notes s _.
    out_under notes c.args.slots.now c.args.tag c.in-Some.slot (found_slot c.args.slots.now c.args.tag c.of_number.result c.slot_in.result c.in-Some.slot c.of_number.ensures c.slot_in.ensures c.in-Some.is) (sym (c.is_out.ensures rules late notes s) ∙ c.if-not-is_out.false)

pub returns-clause-entry : goal.returns-clause-entry
returns-clause-entry c = λ rules late notes s _ place held.
    c.entry.ensures.out rules late notes s place (ap (holder notes) (slot_is c.args.slots.now c.args.tag c.in-Some.slot (found_slot c.args.slots.now c.args.tag c.of_number.result c.slot_in.result c.in-Some.slot c.of_number.ensures c.slot_in.ensures c.in-Some.is)) ∙ held)
    (sym (c.is_out.ensures rules late notes s) ∙ c.if-not-is_out.false)

pub returns-clause-cookie : goal.returns-clause-cookie
returns-clause-cookie c = λ rules late notes s _ place held.
    c.cookie.ensures.out rules late notes s place (ap (holder notes) (slot_is c.args.slots.now c.args.tag c.in-Some.slot (found_slot c.args.slots.now c.args.tag c.of_number.result c.slot_in.result c.in-Some.slot c.of_number.ensures c.slot_in.ensures c.in-Some.is)) ∙ held)
    (sym (c.is_out.ensures rules late notes s) ∙ c.if-not-is_out.false)
