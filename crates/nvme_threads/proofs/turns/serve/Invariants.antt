use Rattle.nvme_front.specs.View.{GoesOn}
use Rattle.nvme_threads.specs.Faults.{HasTurned}
use Rattle.nvme_threads.specs.Loaded.{StaysLoaded}
use Rattle.nvme_threads.proofs.turns.serve.Given as goal

abbrev pub invariant-loop : goal.invariant-loop
invariant-loop g l = record { goes_on : GoesOn l.fn.front l.front; stood : HasTurned l.fn.front l.front; loaded : StaysLoaded l.fn.front l.front }
