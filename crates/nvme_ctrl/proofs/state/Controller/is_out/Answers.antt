use Rattle.std.proofs.Common.{◌==◌, ap, sym, ◌∙◌, inl, inr}
use Rattle.std.proofs.lemmas.Bool.{cases_eq, eq-eqb, ne_eqb}
use Rattle.nvme_slots.specs.declared.slot.Slot.{Slot}
use Rattle.nvme_slots.specs.Pool.{slot_at}
use Rattle.nvme_ctrl.proofs.AnswerCall.{out_is_out, other_is_not_out}
use Rattle.nvme_ctrl.proofs.state.Controller.is_out.Goals as goal

pub returns : goal.returns
returns c rules late notes s =
    let tag = c.args.tag in
    let slots = c.args.slots.now in
    ap (λ (slot : Slot). slot.state == 2) c.slot_at.ensures ∙ elim (cases_eq (slot_at slots tag).state 2) [
      | inl out ↦ eq-eqb (slot_at slots tag).state 2 out ∙ sym (out_is_out rules late notes c.args.self.now slots s tag out)
      | inr other ↦ ne_eqb (slot_at slots tag).state 2 other ∙ sym (other_is_not_out rules late notes c.args.self.now slots s tag other)
    ]
