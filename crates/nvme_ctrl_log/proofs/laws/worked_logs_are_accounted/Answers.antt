use Rattle.nvme_ctrl_log.proofs.ExampleNotes.{two_passes_account, deletion_account}
use Rattle.nvme_ctrl_log.proofs.WrongNotes.{other_answer}
use Rattle.nvme_ctrl_log.proofs.laws.worked_logs_are_accounted.Goals as goal

pub returns : goal.returns
returns c = record { two_passes = two_passes_account; deletion = deletion_account; other_answer = other_answer }
