use Rattle.std.proofs.Common.{arith}
use Rattle.nvme_slots.proofs.Chains.{pop-rest}
use Rattle.nvme_slots.proofs.chain.Chain.pop.Goals as goal

pub returns-clause-rest : goal.returns-clause-rest
returns-clause-rest c x rest h = pop-rest c.args.slots.now c.args.self.now x rest _ _ h (cc) (omega (arith, h.len_is))
