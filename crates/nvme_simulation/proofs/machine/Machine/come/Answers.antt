use Rattle.std.proofs.Common.{◌∙◌, sym, ap, arith}
use Rattle.nvme_simulation.specs.Plans.{events_of}
use Rattle.nvme_simulation.specs.Reading.{HasRead}
use Rattle.nvme_simulation.specs.Rings.{HasSubmitted}
use Rattle.nvme_simulation.specs.declared.machine.Machine.{Machine}
use Rattle.nvme_simulation.proofs.Hosted.{come_then}
use Rattle.nvme_simulation.proofs.Machines.{all_at, comes_at, goes_then, on_ok, plans_if, plans_if_not, works}
use Rattle.nvme_simulation.proofs.Quiet.{front_rests}
use Rattle.nvme_simulation.proofs.Plans.{follows_self, follows_time}
use Rattle.nvme_simulation.proofs.Rooms.{behind_none}
use Rattle.nvme_simulation.proofs.Taking.{on_ok_both}
use Rattle.nvme_simulation.proofs.machine.Machine.come.Goals as goal

pub returns-in_err-come-clause-works : goal.returns-in_err-come-clause-works
returns-in_err-come-clause-works c = record { front = front_rests _ c.requires.front; events = follows_self _; device = behind_none _ }

pub returns-then-not-is_followed-clause-works : goal.returns-then-not-is_followed-clause-works
returns-then-not-is_followed-clause-works c =
    let w = works (record c.args.self.now { hosts = c.come.new.self }) _ c.submit.ensures.goes in record { front = w.front; events = w.events; device = w.device }

pub returns-then-not-is_followed-clause-comes : goal.returns-then-not-is_followed-clause-comes
returns-then-not-is_followed-clause-comes c =
    on_ok c.submit.result
    (come_then _ _ _ _ _ _ (comes_at _ _ _ _ _ _ c.now-now.ensures.value c.in_ok-come.ensures.comes) c.submit.ensures.goes.hosts)

pub returns-in_err-follow-clause-works : goal.returns-in_err-follow-clause-works
returns-in_err-follow-clause-works c =
    let w = works (record c.args.self.now { hosts = c.come.new.self }) _ c.follow.ensures.goes in record { front = w.front; events = w.events; device = w.device }

pub returns-clause-works : goal.returns-clause-works
returns-clause-works c =
    let goes = goes_then (record c.args.self.now { hosts = c.come.new.self }) _ _ c.follow.ensures.goes c.submit-2.ensures.goes in
    let w = works (record c.args.self.now { hosts = c.come.new.self }) _ goes in record { front = w.front; events = w.events; device = w.device }

pub returns-clause-comes : goal.returns-clause-comes
returns-clause-comes c =
    let goes = goes_then (record c.args.self.now { hosts = c.come.new.self }) _ _ c.follow.ensures.goes c.submit-2.ensures.goes in
    on_ok c.submit-2.result (come_then _ _ _ _ _ _ (comes_at _ _ _ _ _ _ c.now-now.ensures.value c.in_ok-come.ensures.comes) goes.hosts)

pub returns-then-not-is_followed-clause-follows : goal.returns-then-not-is_followed-clause-follows
returns-then-not-is_followed-clause-follows c =
    let mid : Machine = record c.args.self.now { hosts = c.come.new.self } in
    on_ok_both c.submit.result (λ (submits : HasSubmitted c.args.qid c.submit.new.self.hosts) (reads : HasRead c.args.qid c.submit.new.self.front). record {
      came = c.come.new.self;
      comes = comes_at _ _ _ _ _ _ c.now-now.ensures.value c.in_ok-come.ensures.comes;
      followed = mid;
      plans = plans_if_not _ _ _ mid (sym c.is_followed.ensures ∙ grind (arith, c.if-not-is_followed.true));
      waits = c.in_ok-come.ensures.rests;
      goes = c.submit.ensures.goes.hosts;
      rests = c.submit.ensures.rests;
      device = c.submit.ensures.device;
      events = ap events_of c.submit.ensures.agenda;
      submits = submits;
      reads = reads;
    }) c.submit.ensures.submits c.submit.ensures.all

pub returns-clause-follows : goal.returns-clause-follows
returns-clause-follows c =
    let mid : Machine = record c.args.self.now { hosts = c.come.new.self } in
    on_ok_both c.submit-2.result (λ (submits : HasSubmitted c.args.qid c.submit-2.new.self.hosts) (reads : HasRead c.args.qid c.submit-2.new.self.front). record {
      came = c.come.new.self;
      comes = comes_at _ _ _ _ _ _ c.now-now.ensures.value c.in_ok-come.ensures.comes;
      followed = c.follow.new.self;
      plans = plans_if _ _ _ _ mid c.follow.new.self c.now-now.ensures.value (sym c.is_followed.ensures ∙ grind (arith, c.if-not-is_followed.false))
          c.in_ok-follow.ensures.plans;
      waits = c.in_ok-come.ensures.rests;
      rests = c.submit-2.ensures.rests;
      device = c.submit-2.ensures.device ∙ c.follow.ensures.device;
      goes = all_at _ _ _ _ (follows_time _ _ c.follow.ensures.goes.events) c.submit-2.ensures.goes.hosts;
      events = ap events_of c.submit-2.ensures.agenda;
      submits = submits;
      reads = reads;
    }) c.submit-2.ensures.submits c.submit-2.ensures.all
