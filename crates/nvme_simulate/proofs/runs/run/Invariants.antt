use Rattle.std.proofs.Common.{List}
use Rattle.nvme_simulate.specs.Played.{GoesBy}
use Rattle.nvme_simulation.specs.Runs.{Moment}
use Rattle.nvme_simulation.specs.Simulations.{IsSimulation}
use Rattle.nvme_simulate.proofs.runs.run.Given as goal

abbrev pub invariant-loop : goal.invariant-loop
invariant-loop g l = record {
  stands : IsSimulation l.simulation;
  goes : (steps : List Moment) × GoesBy steps l.fn.simulation l.simulation l.fn.numbers l.numbers l.end;
}
