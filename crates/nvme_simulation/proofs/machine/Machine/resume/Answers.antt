use Rattle.std.proofs.Common.{◌∙◌, ap, subst, sym}
use Rattle.nvme_simulation.specs.Devices.{device_in}
use Rattle.nvme_simulation.specs.Starts.{StartsOn}
use Rattle.nvme_simulation.specs.declared.channels.Runs.{Runs}
use Rattle.nvme_simulation.proofs.Machines.{goes_on_at, goes_then}
use Rattle.nvme_simulation.proofs.Quiet.{front_rests}
use Rattle.nvme_simulation.proofs.Hosted.{all_stay}
use Rattle.nvme_simulation.proofs.Plans.{follows_self}
use Rattle.nvme_simulation.proofs.Taking.{on_ok_both}
use Rattle.nvme_simulation.proofs.machine.Machine.resume.Goals as goal

pub returns-in_err-started-clause-goes : goal.returns-in_err-started-clause-goes
returns-in_err-started-clause-goes c = record {
  front = front_rests _ c.requires.front;
  hosts = all_stay _ _;
  events = follows_self _;
  device = c.resume.ensures.behind;
}

pub returns-clause-goes : goal.returns-clause-goes
returns-clause-goes c = goes_then _ _ _ (record {
  front = front_rests _ c.requires.front;
  hosts = all_stay _ _;
  events = follows_self _;
  device = c.resume.ensures.behind;
}) c.start.ensures.goes

pub returns-clause-resumes : goal.returns-clause-resumes
returns-clause-resumes c =
    on_ok_both c.start.result
    (goes_on_at c.now.result _ c.args.self.now _ c.in_ok-started.started c.now.ensures.value c.in_ok-started.ensures.starts
    (ap device_in c.start.ensures.device ∙ c.in_ok-started.ensures.resumes)
    (subst (λ (r : Runs). StartsOn c.in_ok-started.started c.args.self.now.device r) (sym c.start.ensures.device) c.in_ok-started.ensures.on)) c.start.ensures.starts c.start.ensures.plans
