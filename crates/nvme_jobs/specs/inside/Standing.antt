-- When what a front keeps of its jobs stands at its log (profile).
use Rattle.std.specs.Prelude.{◌≡◌, ℕ, ◌≤◌, ◌<◌, ◌*◌, ◌==◌, true, false, List, [], ◌++◌, length, map, take, Some}
use Rattle.std.specs.List.{All}
use Rattle.nvme_arbiter.specs.declared.pick.Pick.{Pick}
use Rattle.nvme_log.specs.declared.event.Event.{Event}
use Rattle.nvme_log.specs.declared.event.Event.TheVariants as event
use Rattle.nvme_log.specs.declared.place.Place.{Place}
use Rattle.nvme_log.specs.Limits.{max_outstanding}
use Rattle.nvme_log.specs.Rules.{Past}
use Rattle.nvme_log.specs.Queues.{Queue, admin_queue, open_sq}
use Rattle.nvme_log.specs.Places.{fetched, picked, is_aborted, unaborted_below, fate_of, is_picked, is_waiting, waiting, entry_at, is_served}
use Rattle.nvme_log.specs.Completions.{is_posted}
use Rattle.nvme_log.specs.Dispatches.{place_at, dispatched}
use Rattle.nvme_jobs.specs.declared.dispatched.Dispatched.{Dispatched}
use Rattle.nvme_jobs.specs.Answers.{HasTicket}
use Rattle.nvme_jobs.specs.Hands.{Hands, in_hand, is_in_hand}
use Rattle.nvme_jobs.specs.JobAccount.{AccountsForPlaces, AccountsForJobs}
use Rattle.nvme_jobs.specs.inside.Jobs.{JobsView}

-- a picked I/O command that has no result yet has the entry of its place
pub record IsDispatched (past : Past) (d : Dispatched) : Type 0 where
  pub entry : entry_at past d.place.region d.place.index ≡ Some d.entry

-- a fetched place was picked
pub record IsPickedPlace (past : Past) (r i : ℕ) : Type 0 where
  pub there : i < length (fetched past r)
  pub was_picked : is_picked (fate_of past r i) ≡ true

-- the jobs are those of the picked places of I/O queues, of which each has its ticket. A pick takes at most the places that may be outstanding,
-- so tickets don't run out
pub record HoldsJobs (sizes : List ℕ) (past : Past) (j : JobsView) : Type 0 where
  pub tickets_are : j.tickets ≡ length (dispatched past)
  pub few : j.tickets ≤ max_outstanding * length past
  pub account : AccountsForJobs sizes past j.hands
  pub each : All (IsDispatched past) (in_hand j.hands)
  pub covers : (r i : ℕ) → (r == 0) ≡ false → IsPickedPlace past r i → (ticket : ℕ) × HasTicket past ticket r i

-- so but for the jobs of these places, the latest that were picked, which are still to be added
pub record HoldsJobsBut (sizes : List ℕ) (past : Past) (j : JobsView) (rest : List Place) : Type 0 where
  pub added : List Place
  pub dispatched_are : dispatched past ≡ added ++ rest
  pub tickets_are : j.tickets ≡ length added
  pub few : length (dispatched past) ≤ max_outstanding * length past
  pub account : AccountsForPlaces sizes past added j.hands
  pub each : All (IsDispatched past) (in_hand j.hands)
  pub covers : (r i : ℕ) → (r == 0) ≡ false → IsPickedPlace past r i → (ticket : ℕ) × HasTicket past ticket r i

-- the places that a pick takes of a queue: the oldest that wait
abbrev pub taken_by : Past → Queue → Pick → List Place
taken_by past queue pick = map (place_at queue.region) (take pick.n (waiting past queue.region))

-- no command was picked: none was handed over since the front was given its seat
pub record AreFreshJobs (j : JobsView) : Type 0 where
  pub tickets : j.tickets ≡ 0
  pub none_unhanded : j.hands.unhanded ≡ []
  pub none_running : j.hands.running ≡ []
  pub none_handed : j.hands.seat.handed ≡ j.hands.came.handed

-- an event after which the same I/O commands are picked: it is no pick of an I/O queue. A fetch is of a place that isn't aborted, behind all that
-- were picked, and an abort is of a place that waits
abbrev pub IsOther : Past → Event → Type 0
IsOther past (event.Fetch r index entry) =
    (is_aborted past r (length (fetched past r)) ≡ false) × (picked past r ≤ unaborted_below past r (length (fetched past r)))
IsOther past (event.Pick seen pick) = (pick.qid ≡ 0) × (open_sq past 0 ≡ Some admin_queue)
IsOther past (event.Abort r i) = (i < length (fetched past r)) × (is_waiting (fate_of past r i) ≡ true)
IsOther past e = Unit {0}

-- ---- what is posted
-- a place whose completion was posted was picked or aborted before
abbrev pub PostedAreServed : Past → Type 0
PostedAreServed past = (r i : ℕ) → is_posted past r i ≡ true → is_served past r i ≡ true

-- no place that has no result yet was posted
abbrev pub NoneInHandPosted : Past → Hands → Type 0
NoneInHandPosted past h = (r i : ℕ) → is_in_hand h r i ≡ true → is_posted past r i ≡ false
