use Rattle.std.proofs.Common.{refl}
use Rattle.nvme_clock.specs.Streams.{jumps}
use Rattle.nvme_clock.proofs.Turns.{jumps_more}
use Rattle.nvme_clock.proofs.streams.skip_queues.Goals as goal

pub loop-queue-init : goal.loop-queue-init
unfolding jumps
loop-queue-init c = refl

pub loop-queue-preserved : goal.loop-queue-preserved
loop-queue-preserved c = jumps_more _ _ _ _ _ c.loop-queue.invariant c.long_jump.ensures
