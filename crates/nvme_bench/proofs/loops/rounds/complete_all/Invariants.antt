use Rattle.nvme_ctrl.specs.Standing.{IsController}
use Rattle.nvme_bench.proofs.loops.rounds.complete_all.Given as goal

abbrev pub invariant-loop-command : goal.invariant-loop-command
invariant-loop-command l = IsController l.ctrl l.slots
