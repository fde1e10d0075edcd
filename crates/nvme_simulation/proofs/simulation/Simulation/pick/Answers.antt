use Rattle.std.proofs.Common.{ℕ, Bool, sym, subst, arith}
use Rattle.nvme_simulation.specs.Passing.{Passes}
use Rattle.nvme_simulation.specs.Picks.{IsTimed}
use Rattle.nvme_simulation.specs.Simulations.{counts_next, may_come_to}
use Rattle.nvme_simulation.specs.Stepping.{HasStepped}
use Rattle.nvme_simulation.specs.Times.{now_of}
use Rattle.nvme_simulation.proofs.Plans.{follows_time}
use Rattle.nvme_simulation.proofs.Stepping.{pick_steps}
use Rattle.nvme_simulation.proofs.simulation.Simulation.pick.Goals as goal

pub returns-in_err-happening-clause-forward : goal.returns-in_err-happening-clause-forward
returns-in_err-happening-clause-forward c = omega (arith, follows_time _ _ c.pick.ensures.goes.events)

pub returns-clause-forward : goal.returns-clause-forward
returns-clause-forward c = omega (arith, follows_time _ _ c.pick.ensures.goes.events)

pub returns-clause-steps : goal.returns-clause-steps
returns-clause-steps c =
    let old = c.args.self.now in
    let h = c.in_ok-happening.happening in
    let told = c.in_ok-happening.ensures in
    let now = follows_time _ _ c.pick.ensures.goes.events in
    let timed : IsTimed (now_of c.pick.new.self.agenda) h = subst (λ (t : ℕ). IsTimed t h) (sym now) told.timed in
    let may = may_come_to old (now_of c.pick.new.self.agenda) in
    let passes : Passes may (counts_next old) (now_of c.pick.new.self.agenda) old.machine.hosts c.pick.new.self.hosts h =
    subst (λ (t : ℕ). Passes may (counts_next old) t old.machine.hosts c.pick.new.self.hosts h) (sym now) (told.passes may (counts_next old)) in
    subst (λ (b : Bool). HasStepped old (record old { machine = c.pick.new.self; picks = b }) h) (sym c.is_pick-self.ensures)
    (pick_steps old c.pick.new.self h c.requires.picks c.pick.ensures.goes told.cost told.of_picks timed (told.counts old.end _ old.occupancy) passes told.picks told.lawful told.notes)
