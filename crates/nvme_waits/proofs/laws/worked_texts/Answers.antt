use Rattle.std.proofs.Common.{refl}
use Rattle.std.specs.Fmt.{digits}
use Rattle.nvme_waits.proofs.laws.worked_texts.Goals as goal

pub returns : goal.returns
unfolding digits
returns c = record { line = refl; why = refl }
