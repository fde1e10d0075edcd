use Rattle.std.proofs.Common.{refl}
use Rattle.nvme_admin.specs.Accepted.{effects_of, queue_table}
use Rattle.nvme_log.proofs.laws.aborted_places_are_not_outstanding.Goals as goal

pub returns : goal.returns
unfolding effects_of queue_table
returns c = refl
