use Rattle.std.proofs.Common.{arith}
use Rattle.nvme_simulation.proofs.Machines.{arrival_costs, plans_next}
use Rattle.nvme_simulation.proofs.Quiet.{front_rests}
use Rattle.nvme_simulation.proofs.Rooms.{behind_none}
use Rattle.nvme_simulation.proofs.machine.Machine.follow.Goals as goal

pub returns-clause-goes : goal.returns-clause-goes
returns-clause-goes c = record {
  front = front_rests _ c.requires.front;
  hosts = c.next_after-next.ensures.goes _;
  events = c.plan.ensures.follows;
  device = behind_none _;
}

pub returns-clause-cost : goal.returns-clause-cost
returns-clause-cost c = let costs = c.plan.ensures.cost in omega (arith, costs, arrival_costs c.next_after-next.result c.args.qid)

pub returns-clause-plans : goal.returns-clause-plans
returns-clause-plans c = plans_next _ _ _ _ _ c.next_after-next.result c.plan.result c.plan.ensures.some c.plan.ensures.plans c.next_after-next.ensures.next
