use Rattle.nvme_ctrl.specs.Standing.{IsController}
use Rattle.nvme_bench.proofs.loops.rounds.submit_all.Given as goal

abbrev pub invariant-loop-qid : goal.invariant-loop-qid
invariant-loop-qid l = IsController l.ctrl l.slots
