use Rattle.std.proofs.Common.{◌≡◌}
use Rattle.rand_xoshiro.specs.Xoshiro256.{long_jump_polynomial}
use Rattle.nvme_clock.specs.Streams.{jumps}
use Rattle.nvme_clock.proofs.streams.skip_queues.Given as goal

abbrev pub invariant-loop-queue : goal.invariant-loop-queue
invariant-loop-queue l = l.rng ≡ jumps long_jump_polynomial l._queue l.fn.rng
