use Rattle.std.proofs.Common.{◌<◌, ℕ, length}
use Rattle.nvme_simulation.specs.Beginnings.{ShowsNone}
use Rattle.nvme_simulation.proofs.hosts.Hosts.are_alone.Given as goal

abbrev pub invariant-loop-qid : goal.invariant-loop-qid
invariant-loop-qid l = (k : ℕ) → k < l.qid → length l.fn.self.all.items < k → ShowsNone l.fn.front k
