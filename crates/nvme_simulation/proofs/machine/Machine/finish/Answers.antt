use Rattle.nvme_simulation.proofs.Hosted.{one_after}
use Rattle.nvme_simulation.proofs.Machines.{works}
use Rattle.nvme_simulation.proofs.Resting.{all_rest_then}
use Rattle.nvme_simulation.proofs.machine.Machine.finish.Goals as goal

pub returns-in_err-taken-clause-works : goal.returns-in_err-taken-clause-works
returns-in_err-taken-clause-works c = works _ _ c.end.ensures.goes

pub returns-in_err-flight-clause-works : goal.returns-in_err-flight-clause-works
returns-in_err-flight-clause-works c =
    let w = works c.args.self.now c.end.new.self c.end.ensures.goes in record { front = w.front; events = w.events; device = w.device }

pub returns-clause-works : goal.returns-clause-works
returns-clause-works c =
    let w = works c.args.self.now c.end.new.self c.end.ensures.goes in record { front = w.front; events = w.events; device = w.device }

pub returns-clause-ends : goal.returns-clause-ends
returns-clause-ends c = one_after _ _ _ _ _ _ _ c.end.ensures.goes.hosts (c.in_ok-flight.ensures.ends _)

pub returns-clause-plans : goal.returns-clause-plans
returns-clause-plans c =
    let ends = c.in_ok-taken.ensures.plans in
    record {
      ran = ends.ran;
      started = ends.started;
      on = ends.on;
      answers = ends.answers;
      device = ends.device;
      plans = ends.plans;
      waited = ends.waited;
      starts = ends.starts;
      told = ends.told;
      completes = ends.completes;
      rests = all_rest_then _ _ _ ends.rests c.in_ok-flight.ensures.rests;
    }
