use Rattle.std.proofs.Common.{refl}
use Rattle.nvme_simulation.proofs.Machines.{goes_front, goes_self}
use Rattle.nvme_simulation.proofs.Quiet.{front_by, front_rests}
use Rattle.nvme_simulation.proofs.machine.Machine.fetch_one.Goals as goal

pub returns-in_default-clause-goes : goal.returns-in_default-clause-goes
returns-in_default-clause-goes c = goes_self _ c.requires.front

pub returns-in_err-number-clause-goes : goal.returns-in_err-number-clause-goes
returns-in_err-number-clause-goes c = goes_front _ _ (c.fetch.ensures.goes _) (front_rests _ c.requires.front) refl refl

pub returns-then-fetched-clause-goes : goal.returns-then-fetched-clause-goes
returns-then-fetched-clause-goes c = goes_front _ _ (c.fetch.ensures.goes _) (front_by _ _ c.fetched.ensures.front (c.fetched.ensures.quiet c.in_ok-number.ensures.io)) refl refl

pub returns-else-fetched-clause-goes : goal.returns-else-fetched-clause-goes
returns-else-fetched-clause-goes c = goes_front _ _ (c.fetch.ensures.goes _) (front_by _ _ c.fetched.ensures.front (c.fetched.ensures.quiet c.in_ok-number.ensures.io)) refl refl
