use Rattle.nvme_waits.proofs.Within.{none_takes_longer}
use Rattle.nvme_waits.proofs.laws.none_takes_longer.Goals as goal

pub returns : goal.returns
returns c = none_takes_longer
