use Rattle.std.proofs.Common.{refl}
use Rattle.nvme_numbers.proofs.laws.worked_above.Goals as goal

pub returns : goal.returns
returns c = record { median = refl; one = refl; none = refl; twenty = refl }
