use Rattle.nvme_ctrl.specs.Standing.{IsController}
use Rattle.nvme_bench.proofs.loops.rounds.take_all.Given as goal

abbrev pub invariant-loop-k : goal.invariant-loop-k
invariant-loop-k l = IsController l.ctrl l.slots
