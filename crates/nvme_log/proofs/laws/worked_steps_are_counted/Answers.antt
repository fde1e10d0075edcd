use Rattle.std.proofs.Common.{refl}
use Rattle.nvme_admin.specs.Accepted.{effects_of, queue_table}
use Rattle.nvme_log.proofs.laws.worked_steps_are_counted.Goals as goal

pub returns-clause-outstanding : goal.returns-clause-outstanding
unfolding effects_of queue_table
returns-clause-outstanding c = refl

pub returns-clause-dispatched : goal.returns-clause-dispatched
returns-clause-dispatched c = refl

pub returns-clause-picks : goal.returns-clause-picks
returns-clause-picks c = refl

pub returns-clause-posts : goal.returns-clause-posts
returns-clause-posts c = refl

pub returns-clause-unposted : goal.returns-clause-unposted
returns-clause-unposted c = refl

pub returns-clause-none_unposted : goal.returns-clause-none_unposted
returns-clause-none_unposted c = refl

pub returns-clause-latest : goal.returns-clause-latest
returns-clause-latest c = refl

pub returns-clause-deleting : goal.returns-clause-deleting
returns-clause-deleting c = refl

pub returns-clause-none_deleting : goal.returns-clause-none_deleting
returns-clause-none_deleting c = refl

pub returns-clause-open : goal.returns-clause-open
returns-clause-open c = refl

pub returns-clause-closing : goal.returns-clause-closing
returns-clause-closing c = refl

pub returns-clause-closed : goal.returns-clause-closed
returns-clause-closed c = refl

pub returns-clause-aborted : goal.returns-clause-aborted
returns-clause-aborted c = refl

pub returns-clause-waiting : goal.returns-clause-waiting
returns-clause-waiting c = refl

pub returns-clause-unfetched : goal.returns-clause-unfetched
returns-clause-unfetched c = refl

pub returns-clause-no_region : goal.returns-clause-no_region
unfolding effects_of queue_table
returns-clause-no_region c = refl
