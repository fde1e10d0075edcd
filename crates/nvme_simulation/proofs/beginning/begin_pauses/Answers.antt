use Rattle.std.proofs.Common.{◌∙◌, refl}
use Rattle.nvme_simulation.proofs.First.{pauses_more, pauses_none}
use Rattle.nvme_simulation.proofs.Plans.{follows_time}
use Rattle.nvme_simulation.proofs.beginning.begin_pauses.Goals as goal

pub loop-channel-init : goal.loop-channel-init
loop-channel-init c = record { time = refl; events = pauses_none _ _ _ }

pub loop-channel-preserved : goal.loop-channel-preserved
loop-channel-preserved c = record {
  time = follows_time _ _ c.plan.ensures.follows ∙ c.loop-channel.invariant.time;
  events = pauses_more _ _ _ _ _ _ _ c.loop-channel.invariant.events c.first_pause-first.ensures c.in_ok-plan.ensures.plans;
}
