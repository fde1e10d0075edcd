-- What each command of a controller waits for where it has nothing to do. (profile)
use Rattle.std.specs.Prelude.{◌≡◌, ◌⊎◌, ℕ, ◌<◌, ◌≤◌, Bool, true, false, List, [], length, Some, None}
use Rattle.nvme_log.specs.Rules.{FrontRules, window_at}
use Rattle.nvme_log.specs.Queues.{Queue, open_sq, open_cq, is_closed_region}
use Rattle.nvme_log.specs.Places.{fetched, waiting, is_served}
use Rattle.nvme_log.specs.Completions.{is_posted}
use Rattle.nvme_ctrl_log.specs.Notes.{Notes, logged}
use Rattle.nvme_ctrl_log.specs.Doorbells.{submitted}
use Rattle.nvme_ctrl_log.specs.Tags.{handed, taken}
use Rattle.nvme_ctrl_log.specs.Observation.{is_held}
use Rattle.nvme_ctrl_log.specs.Deletions.{deleting}
use Rattle.nvme_ctrl_log.specs.Posts.{NonePostable}
use Rattle.nvme_ctrl_log.specs.Steps.{IsNextPick, NoneFinishable}
use Rattle.nvme_ctrl.specs.Standing.{Stands}
use Rattle.nvme_ctrl.specs.Depths.{held_in}
use Rattle.nvme_slots.specs.declared.slot.Slot.{Slot}
use Rattle.nvme_ctrl.specs.declared.state.Controller.{Controller}
use Rattle.nvme_ctrl_log.specs.Progress.{IsWithDevice, WaitsForHost, WaitsForQueue}

-- each call tells that there is nothing to do, as the clauses `told` of fetch, pick, take, post and finish say it: nothing is to be fetched within these depths of the
-- regions, picked, taken, posted or finished
pub record IsStill (rules : FrontRules) (depth : ℕ → ℕ) (notes : Notes) : Type 0 where
  pub fetches : (qid : ℕ) (queue : Queue) → open_sq (logged notes) qid ≡ Some queue → length (fetched (logged notes) queue.region) < submitted rules notes queue.region
      → held_in (logged notes) queue.region < depth queue.region → length (waiting (logged notes) queue.region) < window_at rules queue.region → ⊥
  pub picks : IsNextPick rules notes None
  pub takes : length (taken notes) ≡ length (handed notes)
  pub posts : (cqid x : ℕ) → open_cq (logged notes) cqid ≡ Some x → NonePostable rules notes x
  pub ends : NoneFinishable notes

-- what wasn't fetched of an open queue that isn't held waits for the queue's depth, which its own commands fill
abbrev pub UnfetchedAwait : Type 0
UnfetchedAwait = (rules : FrontRules) (late : Bool) (notes : Notes) (c : Controller) (slots : List Slot) (depth : ℕ → ℕ) (q : ℕ) (queue : Queue) → Stands rules late notes c slots
    → IsStill rules depth notes → open_sq (logged notes) q ≡ Some queue → length (fetched (logged notes) queue.region) < submitted rules notes queue.region
    → is_held notes q ≡ false → depth queue.region ≤ held_in (logged notes) queue.region

-- what waits to be picked in an open queue waits for the device to go on with the queue, which it holds
abbrev pub WaitingAwait : Type 0
WaitingAwait = (rules : FrontRules) (late : Bool) (notes : Notes) (c : Controller) (slots : List Slot) (depth : ℕ → ℕ) (q : ℕ) (queue : Queue) → Stands rules late notes c slots
    → IsStill rules depth notes → open_sq (logged notes) q ≡ Some queue → 0 < length (waiting (logged notes) queue.region) → is_held notes q ≡ true

-- nothing waits to be picked once the deletion of its queue began
abbrev pub NoneWaitDeleted : Type 0
NoneWaitDeleted = (rules : FrontRules) (late : Bool) (notes : Notes) (c : Controller) (slots : List Slot) (r : ℕ) → Stands rules late notes c slots
    → ((i : ℕ) → deleting (logged notes) r ≡ Some i → waiting (logged notes) r ≡ []) × (is_closed_region (logged notes) r ≡ true → waiting (logged notes) r ≡ [])

-- what was picked or aborted and has no completion posted waits for the device, for the host that reads its completion queue, or as a Delete for commands of its queue
abbrev pub ServedAwait : Type 0
ServedAwait = (rules : FrontRules) (late : Bool) (notes : Notes) (c : Controller) (slots : List Slot) (depth : ℕ → ℕ) (r i : ℕ) → Stands rules late notes c slots
    → IsStill rules depth notes → is_served (logged notes) r i ≡ true → is_posted (logged notes) r i ≡ false
    → IsWithDevice notes r i ⊎ (WaitsForHost rules notes r ⊎ WaitsForQueue notes r i)
