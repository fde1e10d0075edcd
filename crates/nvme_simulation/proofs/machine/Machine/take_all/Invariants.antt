use Rattle.std.proofs.Common.{◌≤◌, ◌+◌}
use Rattle.nvme_simulation.specs.Machines.{Goes}
use Rattle.nvme_simulation.specs.Taking.{TakesAll}
use Rattle.nvme_simulation.specs.Steps.{cost_with}
use Rattle.nvme_simulation.proofs.machine.Machine.take_all.Given as goal

abbrev pub invariant-loop-turn : goal.invariant-loop-turn
invariant-loop-turn l = record {
  goes : Goes l.fn.self l.self;
  takes : TakesAll l._turn l.fn.pick.qid l.fn.self l.self;
  cost : cost_with l.self + l._turn ≤ cost_with l.fn.self;
}
