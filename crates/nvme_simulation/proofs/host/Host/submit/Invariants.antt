use Rattle.nvme_simulation.specs.Progress.{HostGoesOn}
use Rattle.nvme_simulation.specs.Resting.{HostRests}
use Rattle.nvme_simulation.proofs.host.Host.submit.Given as goal

abbrev pub invariant-loop-turn : goal.invariant-loop-turn
invariant-loop-turn l = record {
  goes : HostGoesOn l.fn.now l.fn.self l.self;
  rests : HostRests l.fn.self l.self;
}
