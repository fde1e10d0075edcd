use Rattle.std.proofs.Common.{refl}
use Rattle.nvme_simulation.proofs.Machines.{all_at, goes_front, goes_self, on_ok}
use Rattle.nvme_simulation.proofs.Quiet.{front_rests}
use Rattle.nvme_simulation.proofs.Rooms.{behind_none}
use Rattle.nvme_simulation.proofs.Taking.{moves_at, starts_some}
use Rattle.nvme_simulation.proofs.machine.Machine.start.Goals as goal

pub returns-in_default-clause-goes : goal.returns-in_default-clause-goes
returns-in_default-clause-goes c = goes_self _ c.requires.front

pub returns-in_err-start-clause-goes : goal.returns-in_err-start-clause-goes
returns-in_err-start-clause-goes c = goes_front _ _ (all_at _ _ _ _ c.now-now.ensures.value c.start.ensures.goes) (front_rests _ c.requires.front) refl refl

pub returns-clause-goes : goal.returns-clause-goes
returns-clause-goes c = record {
  front = front_rests _ c.requires.front;
  hosts = all_at _ _ _ _ c.now-now.ensures.value c.start.ensures.goes;
  events = c.plan.ensures.follows;
  device = behind_none _;
}

pub returns-clause-starts : goal.returns-clause-starts
returns-clause-starts c =
    on_ok c.plan.result (starts_some c.in-Some.started _ c.args.started _ _ c.in-Some.is (moves_at _ _ _ _ _ _ _ c.now-now.ensures.value c.in_ok-start.ensures.moves))
