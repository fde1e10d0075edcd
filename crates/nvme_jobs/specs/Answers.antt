-- The completion of an I/O command comes after its execution: its place has a ticket, and the result with this ticket was gained (jobs and
-- tickets: profile).
use Rattle.std.specs.Prelude.{◌≡◌, ◌≢◌, ℕ, ◌≤◌, List, true, false, Some, slice_get, sum_by}
use Rattle.nvme_lane.specs.View.{GetView}
use Rattle.nvme_pool.specs.declared.jobs.Job.{Job}
use Rattle.nvme_pool.specs.declared.jobs.Finished.{Finished}
use Rattle.nvme_pool.specs.Jobs.{result_of}
use Rattle.nvme_log.specs.Rules.{Past}
use Rattle.nvme_log.specs.Places.{is_aborted}
use Rattle.nvme_log.specs.Completions.{is_posted}
use Rattle.nvme_log.specs.Dispatches.{dispatched, place_at}
use Rattle.nvme_jobs.specs.Executions.{IsJobOf}
use Rattle.nvme_jobs.specs.Hands.{Hands}

-- a place of an I/O queue wasn't aborted, and its completion was posted
pub record IsAnsweredIo (past : Past) (r i : ℕ) : Type 0 where
  pub io : r ≢ 0
  pub posted : is_posted past r i ≡ true
  pub not_aborted : is_aborted past r i ≡ false

-- a ticket counts a place among the picked places of I/O queues
abbrev pub HasTicket : Past → (ticket r i : ℕ) → Type 0
HasTicket past ticket r i = slice_get (dispatched past) ticket ≡ Some (place_at r i)

-- each answered place of an I/O queue was picked, and not aborted: it has a ticket
abbrev pub AnswersHaveTickets : Past → Type 0
AnswersHaveTickets past = (r i : ℕ) → IsAnsweredIo past r i → (ticket : ℕ) × HasTicket past ticket r i

-- the result of the job of a place is among those that were gained: however results are weighed, all that were gained weigh no less
pub record HasResult (sizes : List ℕ) (past : Past) (h : Hands) (r i : ℕ) : Type 0 where
  pub ticket : ℕ
  pub counts : HasTicket past ticket r i
  pub job : Job
  pub is_of_place : IsJobOf sizes past ticket (place_at r i) job
  pub gained : (w : Finished → ℕ) → w (result_of job) ≤ sum_by (λ (g : GetView Finished). sum_by w g.got) h.seat.ends

-- so it is with each answered place of an I/O queue
abbrev pub AnswersHaveResults : List ℕ → Past → Hands → Type 0
AnswersHaveResults sizes past h = (r i : ℕ) → IsAnsweredIo past r i → HasResult sizes past h r i
