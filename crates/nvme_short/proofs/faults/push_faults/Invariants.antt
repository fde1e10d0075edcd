use Rattle.std.proofs.Common.{◌≡◌, ◌++◌, drop, map}
use Rattle.nvme_short.specs.Faults.{error_of, shown}
use Rattle.nvme_short.proofs.faults.push_faults.Given as goal

abbrev pub invariant-loop-flaw : goal.invariant-loop-flaw
invariant-loop-flaw l = map shown l.told.items ++ map error_of (drop l.flaw-index l.flaws) ≡ map shown l.fn.told.items ++ map error_of l.flaws
