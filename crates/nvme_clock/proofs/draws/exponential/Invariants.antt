use Rattle.std.proofs.Common.{◌≡◌, ◌-◌}
use Rattle.nvme_clock.specs.Draws.{exponential, exponential_from}
use Rattle.nvme_clock.proofs.draws.exponential.Given as goal

-- the runs go on from here
abbrev pub invariant-loop-turn : goal.invariant-loop-turn
invariant-loop-turn g l = exponential_from (64 - l.turn) l.mean l.turn (g.R.Rng.stream l.rng) ≡ exponential l.mean (g.R.Rng.stream l.fn.rng)
