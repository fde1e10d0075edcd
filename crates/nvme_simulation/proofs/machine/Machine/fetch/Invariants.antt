use Rattle.std.proofs.Common.{◌≡◌}
use Rattle.nvme_simulation.specs.Machines.{Goes}
use Rattle.nvme_simulation.specs.Resting.{AllRest}
use Rattle.nvme_simulation.specs.Steps.{cost_with}
use Rattle.nvme_simulation.proofs.machine.Machine.fetch.Given as goal

abbrev pub invariant-loop-turn : goal.invariant-loop-turn
invariant-loop-turn l = record {
  goes : Goes l.fn.self l.self;
  cost : cost_with l.self ≡ cost_with l.fn.self;
  agenda : l.self.agenda ≡ l.fn.self.agenda;
  device : l.self.device ≡ l.fn.self.device;
  rests : AllRest l.fn.self.hosts l.self.hosts;
}
