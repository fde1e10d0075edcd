use Rattle.std.proofs.Common.{refl}
use Rattle.nvme_clock.specs.Streams.{jumps}
use Rattle.nvme_clock.proofs.Turns.{jumps_more}
use Rattle.nvme_clock.proofs.streams.skip_purposes.Goals as goal

pub loop-purpose-init : goal.loop-purpose-init
unfolding jumps
loop-purpose-init c = refl

pub loop-purpose-preserved : goal.loop-purpose-preserved
loop-purpose-preserved c = jumps_more _ _ _ _ _ c.loop-purpose.invariant c.jump.ensures
