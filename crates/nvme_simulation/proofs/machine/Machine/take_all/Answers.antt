use Rattle.std.proofs.Common.{◌≡◌, ℕ, arith, subst}
use Rattle.nvme_simulation.proofs.Machines.{goes_self, goes_then}
use Rattle.nvme_simulation.specs.Taking.{TakesAll}
use Rattle.nvme_simulation.proofs.Taking.{takes_more, takes_none}
use Rattle.nvme_simulation.proofs.machine.Machine.take_all.Goals as goal

pub loop-turn-init : goal.loop-turn-init
loop-turn-init c = record { goes = goes_self _ c.requires.front; takes = takes_none _ _; cost = omega arith }

pub take-requires : goal.take-requires
take-requires c = record { front = c.loop-turn.invariant.goes.front.is }

pub returns-in_err-take-clause-goes : goal.returns-in_err-take-clause-goes
returns-in_err-take-clause-goes c = goes_then _ _ _ c.loop-turn.invariant.goes c.take.ensures.goes

pub loop-turn-preserved : goal.loop-turn-preserved
loop-turn-preserved c = record {
  goes = goes_then _ _ _ c.loop-turn.invariant.goes c.take.ensures.goes;
  takes = takes_more _ _ _ _ _ c.loop-turn.invariant.takes c.in_ok-take.ensures.takes;
  cost = let last = c.in_ok-take.ensures.cost in omega (arith, last, c.loop-turn.invariant.cost);
}

pub returns-clause-goes : goal.returns-clause-goes
returns-clause-goes c = c.loop-turn.invariant.goes

pub returns-clause-cost : goal.returns-clause-cost
returns-clause-cost c = omega (arith, c.loop-turn.invariant.cost, c.loop-turn-test.false)

pub returns-clause-takes : goal.returns-clause-takes
returns-clause-takes c =
    let all : c.loop-turn._turn ≡ c.args.pick.now.n = omega (arith, c.loop-turn-test.false) in
    subst (λ (n : ℕ). TakesAll n c.args.pick.now.qid c.args.self.now c.loop-turn.self) all c.loop-turn.invariant.takes
