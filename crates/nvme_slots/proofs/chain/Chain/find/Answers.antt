use Rattle.std.proofs.Common.{◌+◌, drop, ℕ, refl, sym, ap, ◌∙◌, subst, arith}
use Rattle.nvme_slots.specs.declared.slot.Slot.{Slot}
use Rattle.nvme_slots.specs.Pool.{AreLinked}
use Rattle.nvme_slots.proofs.Chains.{finds, looks-on}
use Rattle.nvme_slots.proofs.chain.Chain.find.Goals as goal

pub returns-then-slot-cid : goal.returns-then-slot-cid
returns-then-slot-cid c xs h =
    let now = c.args.slots.now in
    finds now c.args.cid c.loop.before c.loop.x c.args.self.now.last c.loop.counter xs (omega (arith, h.len_is, c.loop-test.true)) (c.loop.invariant.linked xs h)
    (ap (λ (s : Slot). s.entry.cid) (sym c.slot_at-slot.ensures) ∙ c.if-slot-cid.true)
    ∙ c.loop.invariant.left xs h

pub loop-preserved : goal.loop-preserved
loop-preserved c = record {
  end = refl;
  left = λ xs h. (looks-on c.args.slots.now c.args.cid c.loop.before c.loop.x c.args.self.now.last c.loop.counter xs
      (omega (arith, h.len_is, c.loop-test.true)) (c.loop.invariant.linked xs h)
      (λ e. c.if-slot-cid.false (ap (λ (s : Slot). s.entry.cid) c.slot_at-slot.ensures ∙ e))).0
      ∙ c.loop.invariant.left xs h;
  linked = λ xs h. subst (λ (n : ℕ). AreLinked c.args.slots.now n c.args.self.now.last (drop (c.loop.counter + 1) xs)) (ap (λ (s : Slot). s.next) (sym c.slot_at-slot.ensures))
      (looks-on c.args.slots.now c.args.cid c.loop.before c.loop.x c.args.self.now.last c.loop.counter xs
      (omega (arith, h.len_is, c.loop-test.true)) (c.loop.invariant.linked xs h)
      (λ e. c.if-slot-cid.false (ap (λ (s : Slot). s.entry.cid) c.slot_at-slot.ensures ∙ e))).1;
}
