use Rattle.nvme_pool.specs.Runs.{Ran}
use Rattle.nvme_threads.proofs.crew.work.Given as goal

abbrev pub invariant-loop : goal.invariant-loop
invariant-loop g l = Ran (λ view ticket. g.G.Gate.left (g.G.Gate.entered view ticket) ticket) l.fn.worker l.fn.gate l.worker l.gate
