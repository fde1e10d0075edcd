use Rattle.std.proofs.Common.{refl}
use Rattle.nvme_simulation.specs.Plans.{arrivals_at, first_pauses}
use Rattle.nvme_simulation.proofs.laws.worked_first_events.Goals as goal

pub returns : goal.returns
unfolding arrivals_at first_pauses
returns c = record { arrivals = refl; pauses = refl }
