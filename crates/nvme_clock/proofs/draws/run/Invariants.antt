use Rattle.std.proofs.Common.{◌≡◌, ◌-◌}
use Rattle.nvme_clock.specs.Draws.{run_behind, run_from}
use Rattle.nvme_clock.proofs.draws.run.Given as goal

-- the run goes on from here
abbrev pub invariant-loop-turn : goal.invariant-loop-turn
invariant-loop-turn g l = run_from (64 - l._turn) l.odd l.last (g.R.Rng.stream l.rng) ≡ run_behind l.first (g.R.Rng.stream l.fn.rng)
