-- The jobs that a front handed over, and those that it keeps, are those of its log (jobs and tickets: profile).
use Rattle.std.specs.Prelude.{◌≡◌, ℕ, ◌+◌, List, ◌++◌, map, sum_by}
use Rattle.std.specs.List.{All}
use Rattle.nvme_lane.specs.View.{GetView}
use Rattle.nvme_pool.specs.declared.jobs.Job.{Job}
use Rattle.nvme_pool.specs.declared.jobs.Finished.{Finished}
use Rattle.nvme_pool.specs.Jobs.{result_of}
use Rattle.nvme_log.specs.Rules.{Past}
use Rattle.nvme_log.specs.declared.place.Place.{Place}
use Rattle.nvme_log.specs.Dispatches.{dispatched}
use Rattle.nvme_jobs.specs.Executions.{AreJobs}
use Rattle.nvme_jobs.specs.declared.dispatched.Dispatched.{Dispatched}
use Rattle.nvme_jobs.specs.Answers.{HasTicket}
use Rattle.nvme_jobs.specs.Hands.{Hands, job_in, in_hand}

-- the place of a command in hand is the one that its ticket counts among the picked places of I/O queues
abbrev pub HasItsTicket : Past → Dispatched → Type 0
HasItsTicket past d = HasTicket past d.ticket d.place.region d.place.index

-- the jobs that the front handed over, followed by those that it keeps, are those of these places, with tickets that count from 0, so that each
-- command in hand has the ticket of its place. Each job handed over has its result gained or waits for it. What was gained are the results of
-- jobs, and others
pub record AccountsForPlaces (sizes : List ℕ) (past : Past) (ps : List Place) (h : Hands) : Type 0 where
  pub handed : List Job
  pub seat_handed : h.seat.handed ≡ h.came.handed ++ handed
  pub jobs_are : AreJobs sizes past 0 ps (handed ++ map (job_in sizes) h.unhanded)
  pub done : List Job
  pub each_handed : (w : Job → ℕ) → sum_by w handed ≡ sum_by w (map (job_in sizes) h.running) + sum_by w done
  pub others : List Finished
  pub each_gained : (w : Finished → ℕ) → sum_by (λ (g : GetView Finished). sum_by w g.got) h.seat.ends ≡ sum_by w (map result_of done) + sum_by w others
  pub places : All (HasItsTicket past) (in_hand h)

-- the places are all picked places of I/O queues
abbrev pub AccountsForJobs : List ℕ → Past → Hands → Type 0
AccountsForJobs sizes past h = AccountsForPlaces sizes past (dispatched past) h
