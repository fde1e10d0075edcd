use Rattle.nvme_log.proofs.AbortLaws.{aborted_are_told}
use Rattle.nvme_log.proofs.laws.aborted_places_are_told.Goals as goal

pub returns : goal.returns
returns c = aborted_are_told
