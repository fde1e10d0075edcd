use Rattle.nvme_ctrl.specs.Standing.{IsController}
use Rattle.nvme_bench.proofs.loops.run_often.Given as goal

abbrev pub invariant-loop : goal.invariant-loop
invariant-loop g l = IsController l.ctrl l.slots
