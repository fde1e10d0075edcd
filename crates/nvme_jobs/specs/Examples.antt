-- The jobs of a worked log (profile).
use Rattle.std.specs.Prelude.{ℕ, List, [], ◌∷◌}
use Rattle.nvme_pool.specs.declared.jobs.Job.{Job}
use Rattle.nvme_log.specs.Examples.{read}

-- the job of a Read, by its ticket and its identifier
abbrev pub job_with : ℕ → ℕ → Job
job_with ticket cid = record { ticket = ticket; entry = read cid; spaces = 1000 ∷ [] }

abbrev pub three_jobs : List Job
three_jobs = job_with 0 10 ∷ job_with 1 11 ∷ job_with 2 12 ∷ []
