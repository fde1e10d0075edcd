use Rattle.std.proofs.Common.{◌≡◌, drop}
use Rattle.nvme_arbiter.specs.Observation.{is_observation_from}
use Rattle.nvme_arbiter.proofs.observation.ascend.Given as goal

abbrev pub invariant-loop-queue : goal.invariant-loop-queue
invariant-loop-queue l = is_observation_from l.least (drop l.queue-index l.seen) ≡ is_observation_from 0 l.seen
