use Rattle.nvme_log.proofs.BrokenPromises.{deletion_promise}
use Rattle.nvme_log.proofs.laws.deletion_keeps_the_promise.Goals as goal

pub returns : goal.returns
returns c = deletion_promise
