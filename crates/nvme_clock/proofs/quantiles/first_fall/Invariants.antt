use Rattle.nvme_clock.specs.Tables.{Rises}
use Rattle.nvme_clock.proofs.quantiles.first_fall.Given as goal

-- no value so far is below the one before it
abbrev pub invariant-loop-at : goal.invariant-loop-at
invariant-loop-at l = Rises l.values l.at
