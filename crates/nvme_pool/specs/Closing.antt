-- What the caller of a close learns (profile).
use Rattle.std.specs.Prelude.{◌≡◌, ℕ, ◌+◌, List, [], ◌∷◌, ◌++◌, length, sum_by, None}
use Rattle.std.specs.List.{All}
use Rattle.nvme_pool.specs.declared.jobs.Job.{Job}
use Rattle.nvme_pool.specs.declared.jobs.Finished.{Finished}
use Rattle.nvme_pool.specs.Worker.{WorkerView, Accounts}
use Rattle.nvme_pool.specs.Seat.{Ends}

-- over all workers, each job was handed over as often as it was taken plus as often as it was left, and `count` jobs are left. `shares` weighs the jobs in any way
pub record SharesJobs (handed : List Job) (workers : List WorkerView) (count : ℕ) : Type 0 where
  pub left : List Job
  pub number : length left ≡ count
  pub shares : (h : Job → ℕ) → sum_by h handed ≡ sum_by (λ (w : WorkerView). sum_by h w.taken) workers + sum_by h left

-- ring by ring, the results given are those gained followed by those left
abbrev pub GainedThenLeft : Ends → List WorkerView → List (List Finished) → Type 0
GainedThenLeft [] [] [] = Unit {0}
GainedThenLeft (g ∷ gs) (w ∷ ws) (rest ∷ rests) = (w.given ≡ g.got ++ rest) × GainedThenLeft gs ws rests
GainedThenLeft _ _ _ = ⊥

-- each result given was gained or is left in its ring, in order, and `count` results are left
pub record SharesResults (ends : Ends) (workers : List WorkerView) (count : ℕ) : Type 0 where
  pub left : List (List Finished)
  pub number : sum_by (λ (rest : List Finished). length rest) left ≡ count
  pub shares : GainedThenLeft ends workers left

-- a close left no job and no result, and no worker kept a result
pub record IsAllDone (handed : List Job) (ends : Ends) (workers : List WorkerView) : Type 0 where
  pub jobs : SharesJobs handed workers 0
  pub results : SharesResults ends workers 0
  pub accounts : All Accounts workers
  pub kept : All (λ (w : WorkerView). w.kept ≡ None) workers
