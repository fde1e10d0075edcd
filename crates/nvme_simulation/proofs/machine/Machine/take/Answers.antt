use Rattle.std.proofs.Common.{◌∙◌, ap, refl, sym, subst, arith}
use Rattle.nvme_simulation.proofs.Machines.{all_at, goes_front, goes_then, on_ok}
use Rattle.nvme_simulation.proofs.Started.{answers_now, at_now}
use Rattle.nvme_simulation.specs.Devices.{device_in}
use Rattle.nvme_simulation.specs.Starts.{StartsOn}
use Rattle.nvme_simulation.specs.declared.channels.Runs.{Runs}
use Rattle.nvme_simulation.proofs.Hosted.{all_stay}
use Rattle.nvme_simulation.proofs.Plans.{follows_self}
use Rattle.nvme_simulation.proofs.Taking.{moves_at, on_ok_both}
use Rattle.nvme_simulation.proofs.Quiet.{front_by}
use Rattle.nvme_simulation.proofs.machine.Machine.take.Goals as goal

pub returns-in_default-clause-goes : goal.returns-in_default-clause-goes
returns-in_default-clause-goes c = goes_front _ _ (all_stay _ _) (front_by _ _ c.take.ensures.front c.take.ensures.quiet) refl refl

pub returns-in_err-request-clause-goes : goal.returns-in_err-request-clause-goes
returns-in_err-request-clause-goes c = goes_front _ _ (all_at _ _ _ _ c.now-now.ensures.value c.pick.ensures.goes) (front_by _ _ c.take.ensures.front c.take.ensures.quiet) refl refl

pub returns-in_err-started-clause-goes : goal.returns-in_err-started-clause-goes
returns-in_err-started-clause-goes c = record {
  front = front_by _ _ c.take.ensures.front c.take.ensures.quiet;
  hosts = all_at _ _ _ _ c.now-now.ensures.value c.pick.ensures.goes;
  events = follows_self _;
  device = c.take-2.ensures.behind;
}

pub returns-clause-goes : goal.returns-clause-goes
returns-clause-goes c = goes_then _ _ _ (record {
  front = front_by _ _ c.take.ensures.front c.take.ensures.quiet;
  hosts = all_at _ _ _ _ c.now-now.ensures.value c.pick.ensures.goes;
  events = follows_self _;
  device = c.take-2.ensures.behind;
}) c.start.ensures.goes

pub returns-clause-takes : goal.returns-clause-takes
returns-clause-takes c =
    on_ok_both c.start.result (λ starts plans. record {
      taken = c.in-Some.taken;
      queue = c.in-Some.ensures.queue;
      request = c.in_ok-request.request;
      asks = c.in_ok-request.ensures.asks;
      takes = ap device_in c.start.ensures.device ∙ c.take-2.ensures.takes ∙ at_now c.in-Some.taken c.in_ok-request.request _ _ (device_in c.args.self.now.device) c.now-now.ensures.value;
      picked = c.pick.new.self;
      picks = moves_at _ _ _ _ _ _ _ c.now-now.ensures.value c.in_ok-request.ensures.moves;
      started = c.in_ok-started.started;
      answers = answers_now c.in-Some.taken c.in_ok-request.request _ _ (device_in c.args.self.now.device) _ c.now-now.ensures.value c.in_ok-started.ensures.starts;
      on = subst (λ (r : Runs). StartsOn c.in_ok-started.started c.args.self.now.device r) (sym c.start.ensures.device) c.in_ok-started.ensures.on;
      starts = starts;
      plans = plans;
    }) c.start.ensures.starts c.start.ensures.plans

pub returns-clause-cost : goal.returns-clause-cost
returns-clause-cost c =
    let room = c.in_ok-started.ensures.room in
    let starts = c.start.ensures.cost in
    on_ok c.start.result (omega (arith, room, starts))
