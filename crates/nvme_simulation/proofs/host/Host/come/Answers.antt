use Rattle.std.proofs.Common.{subst}
use Rattle.nvme_simulation.specs.Progress.{ComesOne}
use Rattle.nvme_simulation.specs.declared.flight.Flights.{Flights}
use Rattle.nvme_simulation.specs.Stages.{HasCome}
use Rattle.nvme_simulation.proofs.Progress.{come}
use Rattle.nvme_simulation.proofs.Resting.{rests_come}
use Rattle.nvme_simulation.proofs.host.Host.come.Goals as goal

pub returns-in-Ok : goal.returns-in-Ok
returns-in-Ok c = record {
  comes = record {
    request = c.in-Some.request;
    flights = subst (λ (f : Flights). ComesOne c.args.now c.in-Some.request f c.come.new.self) c.draw.ensures.flights (come _ _ _ _ c.in-Ok.ensures.ok);
    draws = c.in-Some.ensures.draws;
    counted = c.in-Some.ensures.counts;
  };
  rests = rests_come c.args.now c.in-Some.request _ _ c.draw.ensures.times c.draw.ensures.head
      (subst (λ (f : Flights). HasCome c.args.now c.in-Some.request f c.come.new.self) c.draw.ensures.flights c.in-Ok.ensures.ok);
}
