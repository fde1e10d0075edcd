use Rattle.std.proofs.Common.{◌≡◌}
use Rattle.rand_xoshiro.specs.Xoshiro256.{jump_polynomial}
use Rattle.nvme_clock.specs.Streams.{jumps}
use Rattle.nvme_clock.proofs.streams.skip_purposes.Given as goal

abbrev pub invariant-loop-purpose : goal.invariant-loop-purpose
invariant-loop-purpose l = l.rng ≡ jumps jump_polynomial l._purpose l.fn.rng
