-- What the steps of a front leave (profile).
use Rattle.std.specs.Prelude.{◌≡◌, ◌⊎◌, ◌≢◌, ℕ, ◌<◌, ◌≤◌, List, [], ◌++◌, length, map, slice_index_or, Some}
use mathlib.Core.List.{IsPrefix}
use Rattle.nvme_entry.specs.declared.submission.Sqe.{Sqe}
use Rattle.nvme_arbiter.specs.Limits.{highest_qid}
use Rattle.nvme_pool.specs.Seat.{SameSeat}
use Rattle.nvme_log.specs.Rules.{window_at}
use Rattle.nvme_log.specs.Queues.{Queue, open_sq, cq_region_of}
use Rattle.nvme_log.specs.Places.{waiting}
use Rattle.nvme_jobs.specs.Hands.{gained_count}
use Rattle.nvme_front.specs.declared.region.SqRegion.{SqRegion}
use Rattle.nvme_front.specs.declared.state.FrontState.{FrontState}
use Rattle.nvme_front.specs.inside.State.{gets_of, past_of, rules_of, view_of}
use Rattle.nvme_front.specs.View.{IsReadyPlace, known_in, free_in}
use Rattle.nvme_front.specs.Ends.{get_place, put_place}

-- what was got from a submission region and is known to come next
abbrev pub coming_at : SqRegion → List Sqe
coming_at r = r.end.got ++ r.end.known

abbrev pub coming_in : List SqRegion → ℕ → List Sqe
coming_in sqs r = slice_index_or (map coming_at sqs) r []

-- the same front later on: the same regions and seat, and a log that begins with the old one
pub record Goes (old new : FrontState) : Type 0 where
  pub grew : IsPrefix old.log.items new.log.items
  pub config : new.config ≡ old.config
  pub alloc : new.alloc ≡ old.alloc
  pub late : new.late ≡ old.late
  pub gets : map get_place (gets_of new.sqs.items) ≡ map get_place (gets_of old.sqs.items)
  pub puts : map put_place new.cqs.items ≡ map put_place old.cqs.items
  pub comes : (r : ℕ) → IsPrefix (coming_in old.sqs.items r) (coming_in new.sqs.items r)
  pub came : new.jobs.hands.came ≡ old.jobs.hands.came
  pub seat : SameSeat old.jobs.hands.seat new.jobs.hands.seat
  pub handed : length old.jobs.hands.seat.handed ≤ length new.jobs.hands.seat.handed
  pub gained : gained_count old.jobs.hands ≤ gained_count new.jobs.hands
  pub room : new.jobs.room ≡ old.jobs.room

-- nothing changed but room in the log
pub record IsSame (old new : FrontState) : Type 0 where
  pub log : new.log.items ≡ old.log.items
  pub sqs : new.sqs.items ≡ old.sqs.items
  pub cqs : new.cqs.items ≡ old.cqs.items
  pub engine : new.engine ≡ old.engine
  pub jobs : new.jobs ≡ old.jobs
  pub late : new.late ≡ old.late
  pub config : new.config ≡ old.config
  pub alloc : new.alloc ≡ old.alloc

-- both admin regions are there
abbrev pub HasAdmin : FrontState → Type 0
HasAdmin s = (0 < length s.sqs.items) × (0 < length s.cqs.items)

-- the queue of an identifier is not open, or its window is full and not empty, or its ring is known to give nothing
abbrev pub IsScanned : FrontState → ℕ → Type 0
IsScanned s q =
    (queue : Queue) → open_sq (past_of s) q ≡ Some queue
    → ((window_at (rules_of s) queue.region ≤ length (waiting (past_of s) queue.region)) × (waiting (past_of s) queue.region ≢ [])) ⊎ (known_in (view_of s) queue.region ≡ [])

-- each queue was scanned
abbrev pub AllScanned : FrontState → Type 0
AllScanned s = (q : ℕ) → q ≤ highest_qid → IsScanned s q

-- no completion is ready in a completion region, or its ring is full
abbrev pub IsDrained : FrontState → ℕ → Type 0
IsDrained s c = (r i : ℕ) → IsReadyPlace (view_of s) r i → cq_region_of (past_of s) r ≡ Some c → free_in (view_of s) c ≡ 0
