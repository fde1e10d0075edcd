use Rattle.nvme_ctrl.proofs.Still.{none_wait_deleted, served_await, unfetched_await, waiting_await}
use Rattle.nvme_ctrl.proofs.laws.nothing_stands_still.Goals as goal

pub returns-clause-unfetched : goal.returns-clause-unfetched
returns-clause-unfetched c = unfetched_await

pub returns-clause-waiting : goal.returns-clause-waiting
returns-clause-waiting c = waiting_await

pub returns-clause-deleted : goal.returns-clause-deleted
returns-clause-deleted c = none_wait_deleted

pub returns-clause-served : goal.returns-clause-served
returns-clause-served c = served_await
