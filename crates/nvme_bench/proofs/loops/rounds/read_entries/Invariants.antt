use Rattle.nvme_ctrl.specs.Standing.{IsController}
use Rattle.nvme_bench.proofs.loops.rounds.read_entries.Given as goal

abbrev pub invariant-loop : goal.invariant-loop
invariant-loop l = IsController l.ctrl l.slots
