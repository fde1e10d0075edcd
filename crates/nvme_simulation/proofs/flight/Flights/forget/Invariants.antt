use Rattle.nvme_simulation.specs.Stages.{Stays}
use Rattle.nvme_simulation.proofs.flight.Flights.forget.Given as goal

abbrev pub invariant-loop-turn : goal.invariant-loop-turn
invariant-loop-turn l = Stays l.fn.self l.self
