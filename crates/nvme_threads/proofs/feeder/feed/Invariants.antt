use Rattle.nvme_threads.specs.Hosts.{IsSameFeeder}
use Rattle.nvme_threads.proofs.feeder.feed.Given as goal

abbrev pub invariant-loop : goal.invariant-loop
invariant-loop g l = IsSameFeeder l.fn.feeder l.feeder
