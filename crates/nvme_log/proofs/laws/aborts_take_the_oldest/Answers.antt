use Rattle.nvme_log.proofs.AbortLaws.{aborts_take_the_oldest}
use Rattle.nvme_log.proofs.laws.aborts_take_the_oldest.Goals as goal

pub returns : goal.returns
returns c = aborts_take_the_oldest
