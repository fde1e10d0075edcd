use Rattle.std.proofs.Common.{◌-◌, false, true, sym, ap, ◌∙◌, arith}
use Rattle.nvme_slots.specs.declared.slot.Slot.{Slot}
use Rattle.nvme_ctrl.specs.Ranges.{are_linked}
use Rattle.nvme_ctrl.proofs.KeptRanges.{goes_on, stops, ended, chain_by}
use Rattle.nvme_ctrl.proofs.ranges.is_chain.Goals as goal

pub returns-then-not-is_link : goal.returns-then-not-is_link
returns-then-not-is_link c =
    let slots = c.args.slots.now in
    let chain = c.args.chain.now in
    let n = c.loop-left.left in
    sym (chain_by c.args.lowest c.args.highest slots chain false (omega (arith, c.if-from-slots.false))
    (sym c.loop-left.invariant ∙ stops c.args.lowest c.args.highest slots chain.last c.loop-left.x n (n - 1) (omega (arith, c.loop-left-test.true)) (sym c.is_link.ensures ∙ c.if-not-is_link.true)))

pub loop-left-preserved : goal.loop-left-preserved
loop-left-preserved c =
    let slots = c.args.slots.now in
    let chain = c.args.chain.now in
    let n = c.loop-left.left in
    ap (λ (s : Slot). are_linked c.args.lowest c.args.highest slots chain.last s.next (n - 1)) c.slot_at-x.ensures
    ∙ sym (goes_on c.args.lowest c.args.highest slots chain.last c.loop-left.x n (n - 1) (omega (arith, c.loop-left-test.true)) (sym c.is_link.ensures ∙ c.if-not-is_link.false))
    ∙ c.loop-left.invariant

pub returns : goal.returns
returns c =
    let slots = c.args.slots.now in
    let chain = c.args.chain.now in
    sym (chain_by c.args.lowest c.args.highest slots chain true (omega (arith, c.if-from-slots.false))
    (sym c.loop-left.invariant ∙ ended c.args.lowest c.args.highest slots chain.last c.loop-left.x c.loop-left.left (omega (arith, c.loop-left-test.false))))
