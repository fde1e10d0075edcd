use Rattle.std.proofs.Common.{◌∙◌, sym, arith}
use Rattle.nvme_simulation.proofs.Hosted.{all_stay}
use Rattle.nvme_simulation.proofs.Machines.{goes_self, on_ok, pause_costs, plans_sum}
use Rattle.nvme_simulation.proofs.Quiet.{front_rests}
use Rattle.nvme_simulation.proofs.Handling.{next_none, next_over, next_pause}
use Rattle.nvme_simulation.specs.Simulations.{time_of}
use Rattle.nvme_simulation.proofs.Rooms.{behind_none}
use Rattle.nvme_simulation.proofs.simulation.Simulation.plan_pause.Goals as goal

pub returns-in_default-clause-goes : goal.returns-in_default-clause-goes
returns-in_default-clause-goes c = goes_self _ c.requires.front

pub returns-then-is_over-clause-goes : goal.returns-then-is_over-clause-goes
returns-then-is_over-clause-goes c = goes_self _ c.requires.front

pub returns-clause-goes : goal.returns-clause-goes
returns-clause-goes c = record {
  front = front_rests _ c.requires.front;
  hosts = all_stay _ _;
  events = c.plan.ensures.follows;
  device = behind_none _;
}

pub returns-clause-cost : goal.returns-clause-cost
returns-clause-cost c =
    let costs = c.plan.ensures.cost in
    let later = c.in-Some.pauses.apart in
    on_ok c.plan.result (omega (arith, costs, pause_costs _ _ _ (time_of c.args.self.now) c.args.channel c.checked_add-next.ensures (omega (arith, later, c.now.ensures.value))))

pub returns-in_default-clause-plans : goal.returns-in_default-clause-plans
returns-in_default-clause-plans c = next_none _ _ _ _ _ c.in_default.is

pub returns-then-is_over-clause-plans : goal.returns-then-is_over-clause-plans
returns-then-is_over-clause-plans c = next_over _ _ _ _ _ (sym c.is_over.ensures ∙ grind (arith, c.if-is_over.true))

pub returns-clause-plans : goal.returns-clause-plans
returns-clause-plans c =
    next_pause c.args.self.now.pauses _ c.in-Some.pauses _ _ c.now.result _ _ c.plan.result c.in-Some.is (sym c.is_over.ensures ∙ grind (arith, c.if-is_over.false))
    c.now.ensures.value
    (plans_sum _ _ c.checked_add-next.result c.plan.result _ _ _ _ c.checked_add-next.ensures c.plan.ensures.some c.plan.ensures.plans)
