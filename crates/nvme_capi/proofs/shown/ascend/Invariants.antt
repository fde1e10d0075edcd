-- What is left of the test gives the answer.
use Rattle.std.proofs.Common.{◌≡◌, ◌&&◌, drop}
use Rattle.nvme_arbiter.specs.Observation.{is_observation_from}
use Rattle.nvme_capi.specs.States.{seen_in}
use Rattle.nvme_capi.proofs.shown.ascend.Given as goal

abbrev pub invariant-loop-queue : goal.invariant-loop-queue
invariant-loop-queue l = (l.ascend && is_observation_from l.least (seen_in (drop l.queue-index l.queues))) ≡ is_observation_from 0 (seen_in l.queues)
