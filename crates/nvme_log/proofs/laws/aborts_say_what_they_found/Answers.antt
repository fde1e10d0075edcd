use Rattle.nvme_log.proofs.AbortAnswers.{aborts_are_told}
use Rattle.nvme_log.proofs.laws.aborts_say_what_they_found.Goals as goal

pub returns : goal.returns
returns c = aborts_are_told
