-- What is done is what the words ask for.
use Rattle.nvme_sim.proofs.Inputs.{or_else}
use Rattle.nvme_sim.proofs.commands.served.Goals as goal

pub returns-in-Ok-clause-done : goal.returns-in-Ok-clause-done
returns-in-Ok-clause-done g c = λ is. (c.in-Ok.request, c.in-Ok.ensures.answer, c.done.ensures.done is)

pub returns-in-Ok-clause-failed : goal.returns-in-Ok-clause-failed
returns-in-Ok-clause-failed g c =
    or_else c.done.result _ _ _ (λ h. (c.in-Ok.request, c.in-Ok.ensures.answer, h)) c.done.ensures.failed
