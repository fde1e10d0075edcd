use Rattle.std.proofs.Common.{◌∙◌, ap, subst, sym}
use Rattle.nvme_simulation.specs.Devices.{device_in}
use Rattle.nvme_simulation.specs.Plans.{events_of}
use Rattle.nvme_simulation.specs.Starts.{PlansEnd, StartsOn}
use Rattle.nvme_simulation.specs.declared.agenda.Agenda.{Agenda}
use Rattle.nvme_simulation.specs.declared.channels.Runs.{Runs}
use Rattle.nvme_simulation.proofs.Hosted.{all_stay}
use Rattle.nvme_simulation.proofs.Machines.{completes_from, ends_at, goes_then}
use Rattle.nvme_simulation.proofs.Quiet.{front_rests, stays_front}
use Rattle.nvme_simulation.proofs.Plans.{follows_self}
use Rattle.nvme_simulation.proofs.machine.Machine.end.Goals as goal

pub returns-in_err-taken-clause-goes : goal.returns-in_err-taken-clause-goes
returns-in_err-taken-clause-goes c = record {
  front = front_rests _ c.requires.front;
  hosts = all_stay _ _;
  events = follows_self _;
  device = c.finish.ensures.behind;
}

pub returns-in_err-start-clause-goes : goal.returns-in_err-start-clause-goes
returns-in_err-start-clause-goes c = goes_then _ _ _ (record {
  front = front_rests _ c.requires.front;
  hosts = all_stay _ _;
  events = follows_self _;
  device = c.finish.ensures.behind;
}) c.start.ensures.goes

pub returns-in_err-collect-clause-goes : goal.returns-in_err-collect-clause-goes
returns-in_err-collect-clause-goes c = goes_then _ _ _ (goes_then _ _ _ (record {
  front = front_rests _ c.requires.front;
  hosts = all_stay _ _;
  events = follows_self _;
  device = c.finish.ensures.behind;
}) c.start.ensures.goes) c.collect.ensures.goes

pub returns-clause-goes : goal.returns-clause-goes
returns-clause-goes c = goes_then _ _ _ (goes_then _ _ _ (record {
  front = front_rests _ c.requires.front;
  hosts = all_stay _ _;
  events = follows_self _;
  device = c.finish.ensures.behind;
}) c.start.ensures.goes) c.collect.ensures.goes

pub returns-clause-plans : goal.returns-clause-plans
returns-clause-plans c = ends_at c.now.result _ c.in_ok-taken.taken c.args.self.now _ c.in_ok-taken.started c.now.ensures.value c.in_ok-taken.ensures.starts
    (ap device_in (c.collect.ensures.device ∙ c.start.ensures.device) ∙ c.in_ok-taken.ensures.ends)
    (subst (λ (a : Agenda). PlansEnd c.in_ok-taken.started (events_of c.args.self.now.agenda) (events_of a)) (sym c.collect.ensures.agenda) c.in_ok-start.ensures.plans)
    c.in_ok-taken.ensures.ran
    (subst (λ (r : Runs). StartsOn c.in_ok-taken.started c.args.self.now.device r) (sym (c.collect.ensures.device ∙ c.start.ensures.device)) c.in_ok-taken.ensures.on)
    c.start.new.self.hosts c.in_ok-start.ensures.starts
    (completes_from _ _ _ _ _ (stays_front _ _ c.start.ensures.goes.front) c.in_ok-collect.ensures.completes)
