-- The picked I/O commands that have no result yet, and the seat at their workers (profile).
use Rattle.std.specs.Prelude.{◌≢◌, ℕ, ◌==◌, ◌&&◌, Bool, List, ◌++◌, length, sum_by}
use Rattle.std.specs.List.{All, list_any}
use Rattle.nvme_lane.specs.View.{GetView}
use Rattle.nvme_pool.specs.Jobs.{job_of}
use Rattle.nvme_pool.specs.Seat.{SeatView}
use Rattle.nvme_pool.specs.declared.jobs.Job.{Job}
use Rattle.nvme_pool.specs.declared.jobs.Finished.{Finished}
use Rattle.nvme_jobs.specs.declared.dispatched.Dispatched.{Dispatched}

-- the seat as the front was given it and as it is, the picked commands whose job isn't handed over yet, the oldest first, and those whose job
-- was handed over and whose result isn't gained yet, in any order
pub record Hands : Type 0 where
  pub came : SeatView
  pub seat : SeatView
  pub unhanded : List Dispatched
  pub running : List Dispatched

-- the picked commands that have no result yet
abbrev pub in_hand : Hands → List Dispatched
in_hand h = h.running ++ h.unhanded

-- the job of a picked command
abbrev pub job_in : List ℕ → Dispatched → Job
job_in sizes d = record { ticket = d.ticket; entry = d.entry; spaces = sizes }

-- the place has no result yet
abbrev pub is_in_hand : Hands → ℕ → ℕ → Bool
is_in_hand h r i = list_any (λ (d : Dispatched). d.place.region == r && d.place.index == i) (in_hand h)

-- a result is the result of none of these commands
abbrev pub IsOfNone : List ℕ → List Dispatched → Finished → Type 0
IsOfNone sizes ds result = All (λ (d : Dispatched). job_of result ≢ job_in sizes d) ds

-- ---- counts
-- how many results the seat gained
abbrev pub gained_count : Hands → ℕ
gained_count h = sum_by (λ (g : GetView Finished). length g.got) h.seat.ends
