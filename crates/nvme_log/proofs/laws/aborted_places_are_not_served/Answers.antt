use Rattle.nvme_log.proofs.AbortLaws.{aborted_are_not_dispatched, admin_is_not_aborted}
use Rattle.nvme_log.proofs.laws.aborted_places_are_not_served.Goals as goal

pub returns : goal.returns
returns c = record { dispatched = aborted_are_not_dispatched; admin = admin_is_not_aborted }
