use Rattle.std.proofs.Common.{◌∙◌, refl}
use Rattle.nvme_simulation.proofs.Beginnings.{unused_self, unused_then}
use Rattle.nvme_simulation.proofs.First.{queues_more, queues_none}
use Rattle.nvme_simulation.proofs.beginning.begin_queues.Goals as goal

pub loop-place-init : goal.loop-place-init
loop-place-init c = record { time = refl; hosts = unused_self _; begins = queues_none _ _ }

pub loop-place-preserved : goal.loop-place-preserved
loop-place-preserved c = record {
  time = c.begin_queue.ensures.time ∙ c.loop-place.invariant.time;
  hosts = unused_then _ _ _ c.loop-place.invariant.hosts c.begin_queue.ensures.hosts;
  begins = queues_more _ _ _ _ _ _ _ c.loop-place.invariant.begins c.in_ok-begin_queue.ensures.begins;
}
