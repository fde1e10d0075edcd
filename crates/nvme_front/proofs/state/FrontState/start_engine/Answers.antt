use Rattle.std.proofs.Common.{arith}
use Rattle.nvme_front.proofs.Beginnings.{first-fault, first-stands}
use Rattle.nvme_front.proofs.state.FrontState.start_engine.Goals as goal

pub start-requires-clause-fit : goal.start-requires-clause-fit
start-requires-clause-fit c =
    let sq = c.slots.ensures in
    let cq = c.slots-2.ensures in
    first-fault c.args.self.now c.requires.roomy c.requires.admin c.index.result.now c.index-end.result.now c.index.ensures c.index-end.ensures _ _
    (λ i. record { address = c.address.ensures i; slots = sq.value i }) (λ i. record { address = c.address-2.ensures i; slots = cq.value i })
    (omega (arith, sq.least, sq.value)) (omega (arith, sq.most, sq.value)) (omega (arith, cq.least, cq.value)) (omega (arith, cq.most, cq.value))

pub returns-clause-stands : goal.returns-clause-stands
returns-clause-stands c =
    first-stands c.args.self.now c.requires.roomy c.requires.admin c.index.result.now c.index-end.result.now c.index.ensures c.index-end.ensures _ _
    (λ i. record { address = c.address.ensures i; slots = c.slots.ensures.value i }) (λ i. record { address = c.address-2.ensures i; slots = c.slots-2.ensures.value i })
    c.start.new.self (c.start.ensures.stands c.args.self.now.config.spaces)
