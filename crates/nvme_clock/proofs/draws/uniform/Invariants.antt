use Rattle.std.proofs.Common.{◌≡◌, ◌-◌}
use Rattle.nvme_clock.specs.Draws.{uniform, uniform_from}
use Rattle.nvme_clock.proofs.draws.uniform.Given as goal

-- the draw goes on from here
abbrev pub invariant-loop-turn : goal.invariant-loop-turn
invariant-loop-turn g l = uniform_from (64 - l._turn) l.bound (g.R.Rng.stream l.rng) ≡ uniform l.bound (g.R.Rng.stream l.fn.rng)
