use Rattle.std.proofs.Common.{refl}
use Rattle.nvme_admin.specs.Accepted.{effects_of, queue_table}
use Rattle.nvme_log.proofs.laws.aborted_places_are_counted.Goals as goal

pub returns-clause-picked : goal.returns-clause-picked
unfolding effects_of queue_table
returns-clause-picked c = refl

pub returns-clause-aborted : goal.returns-clause-aborted
unfolding effects_of queue_table
returns-clause-aborted c = refl

pub returns-clause-posted : goal.returns-clause-posted
unfolding effects_of queue_table
returns-clause-posted c = refl

pub returns-clause-before_delete : goal.returns-clause-before_delete
unfolding effects_of queue_table
returns-clause-before_delete c = refl

pub returns-clause-after_delete : goal.returns-clause-after_delete
unfolding effects_of queue_table
returns-clause-after_delete c = refl
