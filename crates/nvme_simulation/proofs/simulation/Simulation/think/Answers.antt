use Rattle.std.proofs.Common.{◌∙◌, sym, arith}
use Rattle.nvme_simulation.proofs.Machines.{goes_self, on_ok_to, plans_if, plans_if_not}
use Rattle.nvme_simulation.proofs.simulation.Simulation.think.Goals as goal

pub returns-then-not-thinks-clause-goes : goal.returns-then-not-thinks-clause-goes
returns-then-not-thinks-clause-goes c = goes_self _ c.requires.front

pub returns-then-not-thinks-clause-plans : goal.returns-then-not-thinks-clause-plans
returns-then-not-thinks-clause-plans c =
    plans_if_not _ _ _ c.args.self.now.machine (sym c.thinks.ensures ∙ grind (arith, c.if-not-thinks.true))

pub returns-clause-plans : goal.returns-clause-plans
returns-clause-plans c =
    on_ok_to c.follow.result
    (plans_if _ _ _ _ c.args.self.now.machine c.follow.new.self c.now-now.ensures.value (sym c.thinks.ensures ∙ grind (arith, c.if-not-thinks.false)))
    c.follow.ensures.plans
