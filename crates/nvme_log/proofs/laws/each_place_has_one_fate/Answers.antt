use Rattle.nvme_log.proofs.Fates.{one_fate_each}
use Rattle.nvme_log.proofs.laws.each_place_has_one_fate.Goals as goal

pub returns : goal.returns
returns c = one_fate_each
