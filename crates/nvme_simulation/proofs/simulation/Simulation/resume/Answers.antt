use Rattle.std.proofs.Common.{◌≡◌, refl, sym, ap, arith}
use Rattle.nvme_occupancy.specs.declared.occupancy.Occupancy.{Occupancy}
use Rattle.nvme_simulation.specs.Handling.{Stays}
use Rattle.nvme_simulation.specs.Simulations.{time_of}
use Rattle.nvme_simulation.specs.declared.simulation.Simulation.{Simulation}
use Rattle.nvme_simulation.proofs.Hosted.{all_then}
use Rattle.nvme_simulation.proofs.Handling.{goes_on_for, left_behind, stays_goes, stays_machine, stays_then, stays_time}
use Rattle.nvme_simulation.proofs.Machines.{all_at, works, works_time}
use Rattle.nvme_simulation.proofs.simulation.Simulation.resume.Goals as goal

pub returns-in_err-resume-clause-stays : goal.returns-in_err-resume-clause-stays
returns-in_err-resume-clause-stays c = stays_machine _ _ (works _ _ c.resume.ensures.goes)

pub returns-in_err-plan_pause-clause-stays : goal.returns-in_err-plan_pause-clause-stays
returns-in_err-plan_pause-clause-stays c =
    let resumed = stays_machine c.args.self.now c.resume.new.self (works _ _ c.resume.ensures.goes) in
    stays_then _ _ _ resumed (stays_goes (record c.args.self.now { machine = c.resume.new.self }) c.plan_pause.new.self c.plan_pause.ensures.goes c.plan_pause.ensures.rest)

pub returns-clause-stays : goal.returns-clause-stays
returns-clause-stays c =
    let resumed = stays_machine c.args.self.now c.resume.new.self (works _ _ c.resume.ensures.goes) in
    stays_then _ _ _ resumed (stays_goes (record c.args.self.now { machine = c.resume.new.self }) c.plan_pause.new.self c.plan_pause.ensures.goes c.plan_pause.ensures.rest)

pub returns-clause-handles : goal.returns-clause-handles
returns-clause-handles c =
    let old = c.args.self.now in
    let resumed = record old { machine = c.resume.new.self } in
    let after = c.plan_pause.new.self in
    let second : Stays resumed after = stays_goes resumed after c.plan_pause.ensures.goes c.plan_pause.ensures.rest in
    let stays : Stays old after = stays_then old resumed after (stays_machine old c.resume.new.self (works _ _ c.resume.ensures.goes)) second in
    record {
      tells = refl;
      timed = tt;
      counts = ap (λ (s : Simulation). s.occupancy) c.plan_pause.ensures.rest;
      passes =
          let same : time_of resumed ≡ time_of old = works_time old.machine c.resume.new.self (works _ _ c.resume.ensures.goes) in
          all_at _ _ _ _ (sym (stays_time old after stays)) (all_then _ _ _ _ c.resume.ensures.goes.hosts (all_at _ _ _ _ same c.plan_pause.ensures.goes.hosts));
      plans = goes_on_for old resumed after c.args.channel second c.in_ok-resume.ensures.resumes c.plan_pause.ensures.rest c.plan_pause.ensures.agenda
          c.in_ok-plan_pause.ensures.plans;
      cost =
          let first = c.resume.ensures.cost in
          let planned = c.in_ok-plan_pause.ensures.cost in
          let same : time_of resumed ≡ time_of old = works_time old.machine c.resume.new.self (works _ _ c.resume.ensures.goes) in
          let came : after.occupancy ≡ old.occupancy = ap (λ (s : Simulation). s.occupancy) c.plan_pause.ensures.rest in
          omega (arith, left_behind old after stays, first, planned, same, c.resume.ensures.below, ap (λ (o : Occupancy). o.came) came, ap (λ (o : Occupancy). o.left) came);
    }
