use Rattle.std.proofs.Common.{arith}
use Rattle.nvme_ctrl.proofs.QueueSets.{first-above, none-above}
use Rattle.nvme_ctrl.proofs.queue_set.first_above.Goals as goal

pub returns-then-rest-eq0 : goal.returns-then-rest-eq0
returns-then-rest-eq0 c = none-above c.args.set c.args.qid c.if-rest-eq0.true

pub returns : goal.returns
returns c =
    let few = c.if-qid-ge-HIGHEST_QID.false in
    let some = c.if-rest-eq0.false in
    first-above c.args.set c.args.qid (omega (arith, c.ranges.set.fits)) (omega (arith, few)) (omega (arith, some))
