use Rattle.std.proofs.Common.{refl}
use Rattle.nvme_simulation.proofs.Machines.{all_at, goes_front}
use Rattle.nvme_simulation.proofs.Quiet.{front_by, front_rests}
use Rattle.nvme_simulation.proofs.machine.Machine.ring.Goals as goal

pub returns-in_default-clause-goes : goal.returns-in_default-clause-goes
returns-in_default-clause-goes c = goes_front _ _ (all_at _ _ _ _ c.now.ensures.value c.submit.ensures.goes) (front_rests _ c.requires.front) refl refl

pub returns-then-submit-clause-goes : goal.returns-then-submit-clause-goes
returns-then-submit-clause-goes c = goes_front _ _ (all_at _ _ _ _ c.now.ensures.value c.submit.ensures.goes) (front_by _ _ c.submit-2.ensures.front c.submit-2.ensures.quiet) refl refl

pub returns-else-submit-clause-goes : goal.returns-else-submit-clause-goes
returns-else-submit-clause-goes c = goes_front _ _ (all_at _ _ _ _ c.now.ensures.value c.submit.ensures.goes) (front_by _ _ c.submit-2.ensures.front c.submit-2.ensures.quiet) refl refl
