use Rattle.nvme_log.proofs.Foreseen.{answers_are_foreseen}
use Rattle.nvme_log.proofs.laws.answers_are_foreseen.Goals as goal

pub returns : goal.returns
returns c = answers_are_foreseen
