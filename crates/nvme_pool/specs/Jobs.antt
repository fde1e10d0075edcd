-- The result of a job. The status is the outcome of the entry over the namespaces. (NVM Command Set Specification, Flush, Write and Read)
use Rattle.std.specs.Prelude.{refl}
use Rattle.nvme_entry.specs.Outcome.{outcome_of}
use Rattle.nvme_entry.specs.Status.{StatusCode}
use Rattle.nvme_pool.specs.declared.jobs.Job.{Job}
use Rattle.nvme_pool.specs.declared.jobs.Finished.{Finished}

-- the one result that a job has
abbrev pub result_of : Job → Finished
result_of j = record { ticket = j.ticket; entry = j.entry; spaces = j.spaces; status = outcome_of j.entry j.spaces; right = refl }

-- the job that it is the result of
abbrev pub job_of : Finished → Job
job_of f = record { ticket = f.ticket; entry = f.entry; spaces = f.spaces }

abbrev pub status_of : Finished → StatusCode
status_of f = f.status
