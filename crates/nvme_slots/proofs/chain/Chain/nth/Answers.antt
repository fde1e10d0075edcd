use Rattle.std.proofs.Common.{◌≡◌, ◌+◌, ℕ, drop, slice_get, sym, ap, ◌∙◌, subst, arith}
use Rattle.nvme_slots.specs.declared.slot.Slot.{Slot}
use Rattle.nvme_slots.specs.Pool.{AreLinked}
use Rattle.nvme_slots.proofs.Chains.{comes-at, follows}
use Rattle.nvme_slots.proofs.chain.Chain.nth.Goals as goal

pub loop-preserved : goal.loop-preserved
loop-preserved c = record {
  linked = λ xs h.
      let slots = c.args.slots.now in
      let last = c.args.self.now.last in
      subst (λ (n : ℕ). AreLinked slots n last (drop (c.loop.counter + 1) xs)) (ap (λ (s : Slot). s.next) (sym c.slot_at-x.ensures))
      (follows slots c.loop.x last c.loop.counter xs (omega (arith, h.len_is, c.from.ensures, c.if-n-from.false, c.loop-test.true)) (c.loop.invariant.linked xs h));
}

pub returns : goal.returns
returns c xs h =
    let at_end : c.loop.counter ≡ c.args.n = omega (arith, c.loop-test.false, c.loop.auto.counter-end) in
    comes-at c.args.slots.now c.loop.x c.args.self.now.last c.loop.counter xs (omega (arith, h.len_is, c.from.ensures, c.if-n-from.false, at_end)) (c.loop.invariant.linked xs h)
    ∙ ap (slice_get xs) at_end
