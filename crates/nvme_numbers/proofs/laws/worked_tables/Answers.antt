use Rattle.std.proofs.Common.{refl}
use Rattle.std.specs.Fmt.{digits}
use Rattle.nvme_numbers.proofs.laws.worked_tables.Goals as goal

pub returns : goal.returns
unfolding digits
returns c = record { rounded_up = refl; one = refl; two = refl; ninth = refl; tenth = refl; line = refl; no_time = refl }
