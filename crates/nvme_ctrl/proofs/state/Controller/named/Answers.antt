use Rattle.std.proofs.Common.{◌<◌, ℕ, sym, ap, ◌∙◌, arith, length, inl, inr, true≢false}
use Rattle.std.proofs.lemmas.Bool.{cases_eq}
use Rattle.nvme_slots.specs.declared.slot.Slot.{Slot}
use Rattle.nvme_slots.specs.Pool.{slot_at}
use Rattle.nvme_slots.specs.Lookups.{is_found}
use Rattle.nvme_ctrl.proofs.NamedTags.{named_tag, tag_named, tag_inside}
use Rattle.nvme_ctrl.proofs.state.Controller.named.Goals as goal

pub returns-then-is_named-clause-found : goal.returns-then-is_named-clause-found
returns-then-is_named-clause-found c rules late notes s =
    let self = c.args.self.now in
    named_tag rules late notes self c.args.slots.now s c.args.qid c.args.cid c.loop-x.x
    (ap (λ (x : Slot). is_found x c.args.qid c.args.cid) (sym c.slot_at.ensures) ∙ sym c.is_named.ensures ∙ c.if-is_named.true)

pub loop-x-preserved : goal.loop-x-preserved
loop-x-preserved c = record {
  few = c.loop-x.invariant.few;
  none = λ tag lt. elim (cases_eq tag c.loop-x.x) [
    | inl same ↦ ap (λ (t : ℕ). is_found (slot_at c.args.slots.now t) c.args.qid c.args.cid) same
        ∙ ap (λ (x : Slot). is_found x c.args.qid c.args.cid) (sym c.slot_at.ensures) ∙ sym c.is_named.ensures ∙ c.if-is_named.false
    | inr other ↦ c.loop-x.invariant.none tag (omega arith)
  ];
}

pub returns-clause-none : goal.returns-clause-none
returns-clause-none c rules late notes s none tag t =
    let self = c.args.self.now in
    let slots = c.args.slots.now in
    let inside : tag < length slots = tag_inside rules late notes self slots s c.args.qid c.args.cid tag t in
    absurd (true≢false (sym (tag_named rules late notes self slots s c.args.qid c.args.cid tag t) ∙ c.loop-x.invariant.none tag (omega (arith, inside, c.loop-x-test.false, c.loop-x.invariant.few, s.has.few))))
