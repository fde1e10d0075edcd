-- Depths: the most commands of a queue that hold a slot of the pool, each from its fetch to its post. (profile)
use Rattle.std.specs.Prelude.{◌≡◌, ℕ, ◌+◌, ◌<◌, ◌≤◌, Bool, false, not, List, length, Some, sum_by}
use Rattle.nvme_arbiter.specs.Limits.{queue_limit}
use Rattle.nvme_log.specs.declared.event.Event.TheVariants as event
use Rattle.nvme_log.specs.Rules.{FrontRules, Past, upto}
use Rattle.nvme_log.specs.Queues.{Queue, open_sq, qid_of_region, is_closed_region}
use Rattle.nvme_log.specs.Places.{places, waiting}
use Rattle.nvme_log.specs.Completions.{is_posted, unposted_of}
use Rattle.nvme_log.specs.Laws.{count_of}
use Rattle.nvme_ctrl_log.specs.Notes.{Notes, Note, Logged, EachNote, logged}
use Rattle.nvme_ctrl_log.specs.Tags.{all_fetches, all_posts}
use Rattle.nvme_ctrl.specs.Standing.{Stands}
use Rattle.nvme_slots.specs.declared.slot.Slot.{Slot}
use Rattle.nvme_ctrl.specs.declared.state.Controller.{Controller}

-- how many commands of a region hold a slot: they were fetched, and have no completion posted
abbrev pub held_in : Past → ℕ → ℕ
held_in past r = count_of (λ (i : ℕ). not (is_posted past r i)) (places past r)

-- each fetch was made while fewer commands of its region held a slot than its depth
abbrev pub IsFetchedInDepth : (ℕ → ℕ) → Notes → Note → Type 0
IsFetchedInDepth depth before (Logged (event.Fetch r i entry)) = held_in (logged before) r < depth r
IsFetchedInDepth depth before note = Unit {0}

-- where the queue of a region is open or closing, the region's depth is no more than that of the queue's identifier
abbrev pub HasDepths : (depth depths : ℕ → ℕ) → Past → Type 0
HasDepths depth depths past = (r q : ℕ) → qid_of_region past r ≡ Some q → is_closed_region past r ≡ false → depth r ≤ depths q

-- so a pool of the sum of the depths has a slot for each command, deletions and queues anywhere included
abbrev pub DepthsSuffice : Type 0
DepthsSuffice = (rules : FrontRules) (late : Bool) (notes : Notes) (c : Controller) (slots : List Slot) (depth depths : ℕ → ℕ) → Stands rules late notes c slots
    → EachNote (IsFetchedInDepth depth) notes → HasDepths depth depths (logged notes)
    → all_fetches (logged notes) ≤ all_posts (logged notes) + sum_by depths (upto queue_limit)

-- and a free one wherever the depth lets a command be fetched
abbrev pub DepthsLeaveRoom : Type 0
DepthsLeaveRoom = (rules : FrontRules) (late : Bool) (notes : Notes) (c : Controller) (slots : List Slot) (depth depths : ℕ → ℕ) (qid : ℕ) (queue : Queue) → Stands rules late notes c slots
    → EachNote (IsFetchedInDepth depth) notes → HasDepths depth depths (logged notes)
    → open_sq (logged notes) qid ≡ Some queue → held_in (logged notes) queue.region < depths qid → sum_by depths (upto queue_limit) ≤ length slots
    → all_fetches (logged notes) < length slots + all_posts (logged notes)

-- they are those that wait and those with no completion posted, as a fetch counts them (MayFetch, in_depth)
abbrev pub HeldWaitOrAreUnposted : Type 0
HeldWaitOrAreUnposted = (rules : FrontRules) (late : Bool) (notes : Notes) (c : Controller) (slots : List Slot) (r : ℕ) → Stands rules late notes c slots
    → held_in (logged notes) r ≡ length (waiting (logged notes) r) + unposted_of (logged notes) r
