use Rattle.std.proofs.Common.{refl}
use Rattle.std.specs.Fmt.{digits}
use Rattle.nvme_version.proofs.version_is_its_numbers.Goals as goal

pub returns : goal.returns
unfolding digits
returns c = refl
