use Rattle.std.proofs.Common.{◌≡◌, ◌∙◌, ◌≤◌, ◌<◌, ◌+◌, true, refl, sym, ap, subst, arith}
use Rattle.nvme_simulation.specs.Counts.{is_before, may_come}
use Rattle.nvme_simulation.specs.Handling.{Stays}
use Rattle.nvme_simulation.specs.Simulations.{may_come_to, time_of}
use Rattle.nvme_simulation.specs.Steps.{cost_with}
use Rattle.nvme_simulation.specs.Times.{now_of}
use Rattle.nvme_simulation.specs.declared.machine.Machine.{Machine}
use Rattle.nvme_simulation.specs.declared.simulation.Simulation.{Simulation}
use Rattle.nvme_simulation.proofs.Handling.{arrival_plans, below_end, came_if, comes_if, left_behind, stays_machine, stays_occupancy, stays_self, stays_then, stays_time}
use Rattle.nvme_simulation.proofs.simulation.Simulation.arrive.Goals as goal

pub returns-then-not-may_come-clause-stays : goal.returns-then-not-may_come-clause-stays
returns-then-not-may_come-clause-stays c = stays_self _ c.requires.front

pub returns-in_err-count_one_more-clause-stays : goal.returns-in_err-count_one_more-clause-stays
returns-in_err-count_one_more-clause-stays c = stays_occupancy _ _ c.requires.front c.count_one_more.ensures.rest

pub returns-in_err-come-clause-stays : goal.returns-in_err-come-clause-stays
returns-in_err-come-clause-stays c =
    let counted = stays_occupancy c.args.self.now c.count_one_more.new.self c.requires.front c.count_one_more.ensures.rest in
    stays_then _ _ _ counted (stays_machine c.count_one_more.new.self c.come.new.self c.come.ensures.works)

pub returns-clause-stays : goal.returns-clause-stays
returns-clause-stays c =
    let counted = stays_occupancy c.args.self.now c.count_one_more.new.self c.requires.front c.count_one_more.ensures.rest in
    stays_then _ _ _ counted (stays_machine c.count_one_more.new.self c.come.new.self c.come.ensures.works)

pub returns-clause-handles : goal.returns-clause-handles
returns-clause-handles c =
    let old = c.args.self.now in
    let x = c.count_one_more.new.self in
    let after = record x { machine = c.come.new.self } in
    let counted = stays_occupancy c.args.self.now c.count_one_more.new.self c.requires.front c.count_one_more.ensures.rest in
    let stays : Stays old after = stays_then _ _ _ counted (stays_machine c.count_one_more.new.self c.come.new.self c.come.ensures.works) in
    let comes = c.in_ok-count_one_more.ensures.comes in
    let machine : x.machine ≡ old.machine = ap (λ (s : Simulation). s.machine) c.count_one_more.ensures.rest in
    let may : may_come old.end (time_of old) old.occupancy ≡ true = sym c.may_come.ensures ∙ grind (arith, c.if-not-may_come.false) in
    let again : may_come_to x (time_of x) ≡ may_come_to after (time_of after) =
    ap (may_come_to x) (ap (λ (m : Machine). now_of m.agenda) machine ∙ sym (stays_time old after stays)) in
    record {
      tells = refl;
      timed = tt;
      counts = came_if old.end (time_of old) (time_of after) old.occupancy x.occupancy (stays_time old after stays) may comes;
      passes = comes_if old after x.machine c.args.qid _ machine refl (stays_time old after stays) may c.in_ok-come.ensures.comes;
      plans = arrival_plans old after x.machine c.args.qid _ _ machine refl (stays_time old after stays) may (c.may_come-more.ensures ∙ again) c.in_ok-come.ensures.follows;
      cost =
          let costs : cost_with c.come.new.self ≤ cost_with old.machine + 2 = subst (λ (m : Machine). cost_with c.come.new.self ≤ cost_with m + 2) machine c.come.ensures.cost in
          let more : old.occupancy.came < old.end.commands = below_end (is_before (time_of old) old.end.time) old.occupancy.came old.end.commands may in
          omega (arith, left_behind old after stays, costs, comes.came, comes.left, more, old.occupancy.no_more_left);
    }
