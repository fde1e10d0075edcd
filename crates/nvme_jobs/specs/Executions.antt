-- The jobs of picked I/O commands: which job is handed over for which place, and that each is executed once (profile).
use Rattle.std.specs.Prelude.{◌≡◌, ℕ, ◌+◌, ◌==◌, List, [], ◌∷◌, map, Some, slice_get, sum_by}
use Rattle.nvme_lane.specs.View.{GetView}
use Rattle.nvme_pool.specs.declared.jobs.Job.{Job}
use Rattle.nvme_pool.specs.declared.jobs.Finished.{Finished}
use Rattle.nvme_pool.specs.Jobs.{result_of}
use Rattle.nvme_pool.specs.Seat.{SeatView}
use Rattle.nvme_pool.specs.Worker.{WorkerView}
use Rattle.nvme_log.specs.Rules.{Past}
use Rattle.nvme_log.specs.Places.{entry_at, one_if}
use Rattle.nvme_log.specs.declared.place.Place.{Place}
use Rattle.nvme_log.specs.Dispatches.{dispatched}

-- a job with this ticket has the command of a place, and the namespaces
pub record IsJobOf (sizes : List ℕ) (past : Past) (ticket : ℕ) (p : Place) (j : Job) : Type 0 where
  pub ticket_is : j.ticket ≡ ticket
  pub entry_is : entry_at past p.region p.index ≡ Some j.entry
  pub spaces_are : j.spaces ≡ sizes

-- these are the jobs of these places, one each and in their order, with tickets that count from a number
abbrev pub AreJobs : List ℕ → Past → ℕ → List Place → List Job → Type 0
AreJobs sizes past ticket [] [] = Unit {0}
AreJobs sizes past ticket (p ∷ ps) (j ∷ js) = IsJobOf sizes past ticket p j × AreJobs sizes past (ticket + 1) ps js
AreJobs sizes past ticket _ _ = ⊥

-- each picked I/O command was executed once. The jobs handed over are those of the picked places of I/O queues, each once and in the order of the
-- picks, ticket k for the k-th. Over all workers each was taken once and executed once. The results gained are the results of these jobs, each
-- once. Jobs and results are weighed in any way, so that a weight of 1 for one job and of 0 for the others counts it
pub record ExecutesOnce (sizes : List ℕ) (past : Past) (seat : SeatView) (workers : List WorkerView) : Type 0 where
  pub jobs_are : AreJobs sizes past 0 (dispatched past) seat.handed
  pub taken : (w : Job → ℕ) → sum_by (λ (x : WorkerView). sum_by w x.taken) workers ≡ sum_by w seat.handed
  pub executed : (w : Job → ℕ) → sum_by (λ (x : WorkerView). sum_by w x.executed) workers ≡ sum_by w seat.handed
  pub gained : (w : Finished → ℕ) → sum_by (λ (g : GetView Finished). sum_by w g.got) seat.ends ≡ sum_by w (map result_of seat.handed)

-- the job of a place was handed over under a ticket, and no other job was. Over all workers it was taken once and executed once, and one
-- result of it was gained
pub record IsExecutedOnce (sizes : List ℕ) (past : Past) (seat : SeatView) (workers : List WorkerView) (ticket : ℕ) (place : Place) : Type 0 where
  pub job : Job
  pub handed : slice_get seat.handed ticket ≡ Some job
  pub is_of_place : IsJobOf sizes past ticket place job
  pub taken : sum_by (λ (x : WorkerView). sum_by (λ (j : Job). one_if (j.ticket == ticket)) x.taken) workers ≡ 1
  pub executed : sum_by (λ (x : WorkerView). sum_by (λ (j : Job). one_if (j.ticket == ticket)) x.executed) workers ≡ 1
  pub gained : sum_by (λ (g : GetView Finished). sum_by (λ (f : Finished). one_if (f.ticket == ticket)) g.got) seat.ends ≡ 1

-- each picked I/O command is executed once, and its position among them is the ticket of its job
abbrev pub EachIsExecutedOnce : Type 0
EachIsExecutedOnce = (sizes : List ℕ) (past : Past) (seat : SeatView) (workers : List WorkerView) → ExecutesOnce sizes past seat workers
    → (k : ℕ) (place : Place) → slice_get (dispatched past) k ≡ Some place → IsExecutedOnce sizes past seat workers k place
