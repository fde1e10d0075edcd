use Rattle.std.proofs.Common.{◌∙◌, refl, arith}
use Rattle.nvme_simulation.proofs.Handling.{event_lawful, over_lawful, same_model, stays_time}
use Rattle.nvme_simulation.proofs.Machines.{front_stays}
use Rattle.nvme_simulation.proofs.Rooms.{behind_none}
use Rattle.nvme_simulation.proofs.Stepping.{event_steps, if_ok, over_steps, reached}
use Rattle.nvme_simulation.proofs.simulation.Simulation.advance.Goals as goal

pub returns-in_default-clause-same : goal.returns-in_default-clause-same
returns-in_default-clause-same c = record { front = front_stays _ c.requires.front; device = behind_none _; end = refl; pauses = refl; warm_up = refl }

pub returns-in_default-clause-steps : goal.returns-in_default-clause-steps
returns-in_default-clause-steps c =
    if_ok _ _ c.over.result (λ h. over_steps c.args.self.now c.pop.new.self h c.requires.front c.requires.no_picks (c.pop.ensures.value ∙ c.in_default.is) c.pop.ensures.rest c.pop.ensures.forward) c.over.ensures

pub returns-in_default-clause-lawful : goal.returns-in_default-clause-lawful
returns-in_default-clause-lawful c rules late notes s = if_ok _ _ c.over.result (λ h is. over_lawful h is.0 rules notes _) c.over.ensures

pub returns-clause-same : goal.returns-clause-same
returns-clause-same c =
    let s = same_model (reached c.args.self.now c.pop.new.self) c.come.new.self c.come.ensures.stays in
    record { front = s.front; device = s.device; end = s.end; pauses = s.pauses; warm_up = s.warm_up }

pub returns-clause-forward : goal.returns-clause-forward
returns-clause-forward c = omega (arith, c.pop.ensures.forward, stays_time (reached c.args.self.now c.pop.new.self) c.come.new.self c.come.ensures.stays)

pub returns-clause-steps : goal.returns-clause-steps
returns-clause-steps c =
    let costs = c.pop.ensures.cost c.in-Some.event c.in-Some.is in
    if_ok _ _ c.come.result (λ h. event_steps c.args.self.now c.come.new.self c.pop.new.self c.in-Some.event h c.requires.no_picks (c.pop.ensures.value ∙ c.in-Some.is) c.pop.ensures.rest c.pop.ensures.forward costs c.come.ensures.stays) c.come.ensures.handles

pub returns-clause-lawful : goal.returns-clause-lawful
returns-clause-lawful c rules late notes s = if_ok _ _ c.come.result (λ h handles. event_lawful c.in-Some.event h handles.tells rules notes _) c.come.ensures.handles
