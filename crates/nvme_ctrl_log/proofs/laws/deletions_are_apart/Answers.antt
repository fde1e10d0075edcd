use Rattle.nvme_ctrl_log.proofs.ExampleNotes.{two_deletions_account}
use Rattle.nvme_ctrl_log.proofs.WrongNotes.{answered_early, fetched_closing, finished_early, finished_other}
use Rattle.nvme_ctrl_log.proofs.laws.deletions_are_apart.Goals as goal

pub returns : goal.returns
returns c = record { account = two_deletions_account; answered_early = answered_early; fetched_closing = fetched_closing; finished_early = finished_early; finished_other = finished_other }
