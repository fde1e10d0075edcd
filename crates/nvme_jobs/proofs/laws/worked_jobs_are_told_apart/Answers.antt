use Rattle.std.proofs.Common.{refl}
use Rattle.nvme_jobs.proofs.laws.worked_jobs_are_told_apart.Goals as goal

pub returns-clause-jobs : goal.returns-clause-jobs
returns-clause-jobs c = (record { ticket_is = refl; entry_is = refl; spaces_are = refl }, (record { ticket_is = refl; entry_is = refl; spaces_are = refl }, (record { ticket_is = refl; entry_is = refl; spaces_are = refl }, tt)))
