-- What a front keeps of the jobs of picked I/O commands (profile).
use Rattle.std.specs.Prelude.{◌≡◌, ℕ, ◌+◌, List, [], ◌∷◌, ◌++◌}
use Rattle.std.specs.List.{All}
use Rattle.std.specs.List.Sorted.{IsPermutation}
use Rattle.nvme_entry.specs.declared.submission.Sqe.{Sqe}
use Rattle.nvme_pool.specs.Closing.{SharesJobs, SharesResults}
use Rattle.nvme_pool.specs.Jobs.{job_of}
use Rattle.nvme_pool.specs.Worker.{WorkerView, Accounts}
use Rattle.nvme_pool.specs.Seat.{SeatView, SameSeat, OneGained}
use Rattle.nvme_pool.specs.declared.jobs.Finished.{Finished}
use Rattle.nvme_jobs.specs.declared.dispatched.Dispatched.{Dispatched}
use Rattle.nvme_log.specs.declared.place.Place.{Place}
use Rattle.nvme_jobs.specs.Hands.{Hands, job_in, IsOfNone}

pub record JobsView : Type 0 where
  pub hands : Hands
  -- the next ticket
  pub tickets : ℕ
  -- how many commands of each kind there is room for
  pub room : ℕ

abbrev pub dispatched_place : Dispatched → Place
dispatched_place d = d.place

-- a picked command gets the next ticket
abbrev pub next_job : JobsView → (tag : ℕ) → Place → Sqe → Dispatched
next_job j tag place entry = record { ticket = j.tickets; tag = tag; place = place; entry = entry }

-- the jobs with a command more, whose job isn't handed over yet
abbrev pub with_job : JobsView → Dispatched → JobsView
with_job j d = record j { hands = record j.hands { unhanded = j.hands.unhanded ++ d ∷ [] }; tickets = j.tickets + 1 }

-- ---- the steps of jobs
-- a job is handed over, the oldest that was kept
pub record CanHand (sizes : List ℕ) (j : JobsView) (d : Dispatched) (rest : List Dispatched) (seat : SeatView) : Type 0 where
  pub oldest : j.hands.unhanded ≡ d ∷ rest
  pub same : SameSeat j.hands.seat seat
  pub ends : seat.ends ≡ j.hands.seat.ends
  pub handed : seat.handed ≡ j.hands.seat.handed ++ job_in sizes d ∷ []

abbrev pub handed_jobs : JobsView → Dispatched → List Dispatched → SeatView → JobsView
handed_jobs j d rest seat = record j { hands = record j.hands { seat = seat; unhanded = rest; running = j.hands.running ++ d ∷ [] } }

pub record HandsOne (sizes : List ℕ) (old new : JobsView) : Type 0 where
  pub dispatched : Dispatched
  pub rest : List Dispatched
  pub seat : SeatView
  pub can : CanHand sizes old dispatched rest seat
  pub are : new ≡ handed_jobs old dispatched rest seat

-- a result is gained
pub record CanGain (j : JobsView) (result : Finished) (seat : SeatView) : Type 0 where
  pub same : SameSeat j.hands.seat seat
  pub handed : seat.handed ≡ j.hands.seat.handed
  pub gained : OneGained j.hands.seat.ends seat.ends result

-- the result is that of a command whose job was handed over. `rest` are the other such commands
pub record IsResultOf (sizes : List ℕ) (j : JobsView) (d : Dispatched) (rest : List Dispatched) (result : Finished) : Type 0 where
  pub running_is : IsPermutation j.hands.running (d ∷ rest)
  pub its_job : job_of result ≡ job_in sizes d

-- what is left running
abbrev pub gained_jobs : JobsView → List Dispatched → SeatView → JobsView
gained_jobs j running seat = record j { hands = record j.hands { seat = seat; running = running } }

pub record GainsOne (sizes : List ℕ) (old new : JobsView) (d : Dispatched) (result : Finished) : Type 0 where
  pub rest : List Dispatched
  pub seat : SeatView
  pub can : CanGain old result seat
  pub its : IsResultOf sizes old d rest result
  pub are : new ≡ gained_jobs old rest seat

pub record GainsStray (sizes : List ℕ) (old new : JobsView) (ticket : ℕ) : Type 0 where
  pub result : Finished
  pub seat : SeatView
  pub can : CanGain old result seat
  pub of_ticket : result.ticket ≡ ticket
  pub of_none : IsOfNone sizes old.hands.running result
  pub are : new ≡ gained_jobs old old.hands.running seat

-- the pool of a seat and workers was closed: what was handed over was taken or is left, and what was given was gained or is left
pub record IsClosed (seat : SeatView) (workers : List WorkerView) : Type 0 where
  pub jobs_left : ℕ
  pub results_left : ℕ
  pub jobs : SharesJobs seat.handed workers jobs_left
  pub results : SharesResults seat.ends workers results_left
  pub accounts : All Accounts workers
