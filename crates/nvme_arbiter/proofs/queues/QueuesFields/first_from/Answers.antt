use Rattle.std.proofs.Common.{◌+◌, ◌-◌, subst, arith}
use Rattle.nvme_arbiter.specs.inside.Masks.{KeepsFrom, mask_for}
use Rattle.nvme_arbiter.proofs.MaskLemmas.{first-of-mask, none-below}
use Rattle.nvme_arbiter.proofs.queues.QueuesFields.first_from.Goals as goal

pub returns-in_default : goal.returns-in_default
returns-in_default c = λ j from.
    let keeps : KeepsFrom (mask_for c.args.self.now c.args.class) (c.args.least - 1) c.from_bit.result = subst (λ m. KeepsFrom m (c.args.least - 1) c.from_bit.result) c.mask_for.ensures c.from_bit.ensures in
    none-below c.args.self.now c.args.class c.args.least c.from_bit.result (j + 1) c.requires.some keeps (λ i _. c.in_default.ensures i) j from (omega arith)

pub returns-in-Some-wanted_at : goal.returns-in-Some-wanted_at
returns-in-Some-wanted_at c =
    let keeps : KeepsFrom (mask_for c.args.self.now c.args.class) (c.args.least - 1) c.from_bit.result = subst (λ m. KeepsFrom m (c.args.least - 1) c.from_bit.result) c.mask_for.ensures c.from_bit.ensures in
    first-of-mask c.args.self.now c.args.class c.args.least c.from_bit.result c.in-Some.bit c.in-Some-wanted_at.seen c.requires.some c.requires.few keeps c.in-Some.ensures c.in-Some-wanted_at.ensures.some
