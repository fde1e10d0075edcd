use Rattle.std.proofs.Common.{◌∙◌, refl}
use Rattle.nvme_simulation.proofs.First.{arrivals_more, arrivals_none}
use Rattle.nvme_simulation.proofs.Plans.{follows_time}
use Rattle.nvme_simulation.proofs.beginning.begin_queue.Goals as goal

pub loop-command-init : goal.loop-command-init
loop-command-init c = record { time = refl; events = arrivals_none _ _ }

pub loop-command-preserved : goal.loop-command-preserved
loop-command-preserved c = record {
  time = follows_time _ _ c.plan.ensures.follows ∙ c.loop-command.invariant.time;
  events = arrivals_more _ _ _ _ _ c.loop-command.invariant.events c.in_ok-plan.ensures.plans;
}

pub returns-clause-time : goal.returns-clause-time
returns-clause-time c = follows_time _ _ c.plan-2.ensures.follows ∙ c.loop-command.invariant.time
