use Rattle.std.proofs.Common.{refl}
use Rattle.nvme_simulation.proofs.Machines.{pauses_at, plans_sum}
use Rattle.nvme_simulation.proofs.Quiet.{front_rests}
use Rattle.nvme_simulation.proofs.Hosted.{all_stay}
use Rattle.nvme_simulation.proofs.Plans.{follows_self}
use Rattle.nvme_simulation.proofs.machine.Machine.pause.Goals as goal

pub returns-in_err-pause-clause-goes : goal.returns-in_err-pause-clause-goes
returns-in_err-pause-clause-goes c = record {
  front = front_rests _ c.requires.front;
  hosts = all_stay _ _;
  events = follows_self _;
  device = c.pause.ensures.behind;
}

pub returns-clause-goes : goal.returns-clause-goes
returns-clause-goes c = record {
  front = front_rests _ c.requires.front;
  hosts = all_stay _ _;
  events = c.plan.ensures.follows;
  device = c.pause.ensures.behind;
}

pub returns-clause-pauses : goal.returns-clause-pauses
returns-clause-pauses c =
    pauses_at c.now.result c.args.channel c.args.length c.args.self.now _ c.plan.result c.now.ensures.value c.pause.ensures.pauses c.pause.ensures.same refl
    (plans_sum _ _ c.checked_add-end.result c.plan.result _ _ _ _ c.checked_add-end.ensures c.plan.ensures.some c.plan.ensures.plans)
