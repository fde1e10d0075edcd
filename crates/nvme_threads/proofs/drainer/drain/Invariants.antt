use Rattle.nvme_threads.specs.Hosts.{IsSameDrainer}
use Rattle.nvme_threads.proofs.drainer.drain.Given as goal

abbrev pub invariant-loop : goal.invariant-loop
invariant-loop g l = IsSameDrainer l.fn.drainer l.drainer
