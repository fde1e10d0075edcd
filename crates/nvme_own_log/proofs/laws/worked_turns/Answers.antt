use Rattle.nvme_own_log.proofs.TurnExamples.{told_account, told_duties, breaks}
use Rattle.nvme_own_log.proofs.laws.worked_turns.Goals as goal

pub returns : goal.returns
returns c = record { account = told_account; duties = told_duties; judged = breaks }
