-- What settling gives, and what a refusal leaves (profile).
use Rattle.std.specs.Prelude.{◌≡◌, ℕ, ◌<◌, true, false, None, List, [], length, reverse}
use Rattle.std.specs.List.{All, list_all}
use mathlib.Core.List.{IsPrefix}
use Rattle.nvme_lane.specs.declared.drainer.Drainer.{Drainer}
use Rattle.nvme_pool.specs.Seat.{SeatView}
use Rattle.nvme_pool.specs.Worker.{WorkerView}
use Rattle.nvme_pool.specs.Pool.{IsPool}
use Rattle.nvme_entry.specs.declared.completion.Cqe.{Cqe}
use Rattle.nvme_front.specs.declared.settled.Settled.{Settled}
use Rattle.nvme_front.specs.declared.settled.SettleError.{SettleError}
use Rattle.nvme_front.specs.declared.settled.SettleError.TheVariants.{Strangers, Outstanding, NoMemory}
use Rattle.nvme_front.specs.declared.settlement.Parts.{Parts}
use Rattle.nvme_log.specs.Rules.{Past}
use Rattle.nvme_log.specs.Queues.{is_open_region, pending}
use Rattle.nvme_log.specs.Places.{fetched, waiting, places}
use Rattle.nvme_log.specs.Completions.{is_posted, posted_to}
use Rattle.nvme_log.specs.Account.{IsAccount}
use Rattle.nvme_log.specs.Dispatches.{place_at}
use Rattle.nvme_jobs.specs.Executions.{IsExecutedOnce}
use Rattle.nvme_jobs.specs.Answers.{IsAnsweredIo, HasTicket}
use Rattle.nvme_front.specs.View.{FrontView}
use Rattle.nvme_front.specs.Hosts.{IsAtRest, sent_at, taken_at, collected_at}
use Rattle.nvme_front.specs.Unsettled.{IsSameFront, AreSameFeeders, Takes}

-- the log of what is settled, the newest event first
abbrev pub settled_past : Settled → Past
settled_past s = reverse s.log.items

-- nothing is left to do: each fetched place is posted, none waits, no deletion is pending; all that was submitted to an open region was
-- fetched, and all that was posted was collected
pub record IsSettled (s : Settled) : Type 0 where
  pub all_posted : (r : ℕ) → list_all (λ (i : ℕ). is_posted (settled_past s) r i) (places (settled_past s) r) ≡ true
  pub none_waits : (r : ℕ) → waiting (settled_past s) r ≡ []
  pub none_pending : pending (settled_past s) ≡ None
  pub open_fetched : (r : ℕ) → is_open_region (settled_past s) r ≡ true → fetched (settled_past s) r ≡ sent_at s.sent.items r
  pub all_collected : (c : ℕ) → collected_at s.collected.items c ≡ posted_to (settled_past s) c

-- where both admin regions are there and none was added after the first event, the log is the account of what was submitted and collected
abbrev pub IsSettledAccount : FrontView → Settled → Type 0
IsSettledAccount v s =
    v.late ≡ false → 0 < length v.gets → 0 < length v.puts
    → IsAccount v.rules (sent_at s.sent.items) (settled_past s) (collected_at s.collected.items)

-- each I/O command that was answered, and not as an aborted one, was executed once: its job was handed over with its ticket, taken and executed once
-- over all workers, and its result was gained once
abbrev pub AnswersWereExecuted : List ℕ → Past → SeatView → List WorkerView → Type 0
AnswersWereExecuted sizes past seat workers =
    (r i : ℕ) → IsAnsweredIo past r i → (ticket : ℕ) × HasTicket past ticket r i × IsExecutedOnce sizes past seat workers ticket (place_at r i)

-- the lists of the drainers, each as it was and gone on with what rested in its ring
pub record CollectsMore (drainers : List (Drainer Cqe)) (s : Settled) : Type 0 where
  pub count : length s.collected.items ≡ length drainers
  pub grew : (c : ℕ) → IsPrefix (taken_at drainers c) (collected_at s.collected.items c)

-- the lanes, the seat and the workers are those of one pool, and the seat had handed over no job when the front got it
pub record HasItsPool (parts : Parts) : Type 0 where
  pub pool : IsPool parts.lanes parts.front.hands.seat parts.workers.items
  pub none_before : parts.front.hands.came.handed ≡ []

-- the front is clear, no command rests in the ring of an open queue, and no worker keeps a result
pub record AreAtRest (parts : Parts) : Type 0 where
  pub front : IsAtRest parts.front parts.feeders.items
  pub none_kept : All (λ (w : WorkerView). w.kept ≡ None) parts.workers.items

-- what a refusal leaves: all but what ends know and what the drainers took
pub record HandsBack (old new : Parts) : Type 0 where
  pub lanes : new.lanes ≡ old.lanes
  pub workers : new.workers.items ≡ old.workers.items
  pub front : IsSameFront old.front new.front
  pub feeders : AreSameFeeders old.feeders.items new.feeders.items
  pub drainers : Takes old.front old.drainers.items new.drainers.items

-- `Strangers` changed nothing, since no ring was looked at. With `Outstanding` no completion was taken, so the drainers are the same
abbrev pub LeavesBy : SettleError → Parts → Parts → Type 0
LeavesBy Strangers old new = (new.front ≡ old.front) × (new.feeders.items ≡ old.feeders.items) × (new.drainers.items ≡ old.drainers.items)
LeavesBy Outstanding old new = new.drainers.items ≡ old.drainers.items
LeavesBy NoMemory old new = Unit {0}
