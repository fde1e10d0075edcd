use Rattle.std.proofs.Common.{arith, sym, subst, Option, ℕ, ◌≤◌, ◌+◌}
use Rattle.nvme_simulation.proofs.Plans.{follows_pushed, pushed_cost}
use Rattle.nvme_simulation.specs.Plans.{events_of}
use Rattle.nvme_simulation.specs.Steps.{cost_at, cost_in}
use Rattle.nvme_simulation.proofs.agenda.Agenda.plan.Goals as goal

pub returns-in-Ok-clause-follows : goal.returns-in-Ok-clause-follows
returns-in-Ok-clause-follows c = follows_pushed _ _ _ _ c.in-Ok.ensures.ok

pub returns-in-Ok-clause-cost : goal.returns-in-Ok-clause-cost
returns-in-Ok-clause-cost c =
    let costs = pushed_cost c.in-Some.at c.args.event (events_of c.args.self.now) _ c.in-Ok.ensures.ok in
    subst (λ (o : Option ℕ). cost_in (record { events = c.push.new.self }) ≤ cost_in c.args.self.now + cost_at o c.args.event) (sym c.in-Some.is) (omega (arith, costs))
