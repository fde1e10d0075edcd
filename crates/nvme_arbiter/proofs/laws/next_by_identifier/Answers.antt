use Rattle.std.proofs.Common.{refl}
use Rattle.nvme_arbiter.proofs.laws.next_by_identifier.Goals as goal

pub returns : goal.returns
returns c = record { least = refl; after = refl; around = refl; none = refl }
