use Rattle.nvme_simulation.proofs.Machines.{goes_then}
use Rattle.nvme_simulation.proofs.machine.Machine.submit.Goals as goal

pub returns-in_err-ring-clause-goes : goal.returns-in_err-ring-clause-goes
returns-in_err-ring-clause-goes c = c.ring.ensures.goes

pub returns-in_err-fetch-clause-goes : goal.returns-in_err-fetch-clause-goes
returns-in_err-fetch-clause-goes c = goes_then _ _ _ c.ring.ensures.goes c.fetch.ensures.goes

pub returns-then-has_submitted-clause-goes : goal.returns-then-has_submitted-clause-goes
returns-then-has_submitted-clause-goes c = goes_then _ _ _ c.ring.ensures.goes c.fetch.ensures.goes

pub returns-else-has_submitted-clause-goes : goal.returns-else-has_submitted-clause-goes
returns-else-has_submitted-clause-goes c = goes_then _ _ _ c.ring.ensures.goes c.fetch.ensures.goes
