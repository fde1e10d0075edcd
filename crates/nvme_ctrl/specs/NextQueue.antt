-- The next queue that has work. Queues take turns by ascending identifier, and 0 comes after 64 (profile).
use Rattle.std.specs.Prelude.{◌≢◌, ℕ, ◌+◌, ◌-◌, ◌%◌, ◌<◌, ◌≤◌, List, length, None}
use Rattle.nvme_log.specs.Rules.{FrontRules}
use Rattle.nvme_ctrl_log.specs.Notes.{Notes}
use Rattle.nvme_ctrl.specs.Calls.{depth_of}
use Rattle.nvme_ctrl_log.specs.Calls.{MayFetch}
use Rattle.nvme_ctrl.specs.Posts.{next_post_of}
use Rattle.nvme_slots.specs.declared.slot.Slot.{Slot}
use Rattle.nvme_ctrl.specs.declared.state.Controller.{Controller}

-- how many queues have their turn before this one, after the turn of the last one
abbrev pub turns_before : (last q : ℕ) → ℕ
turns_before last q = (q + 64 - last) % 65

-- the queue has work, and none has whose turn comes before
pub record IsNextWith (has : ℕ → Type 0) (last q : ℕ) : Type 0 where
  pub queue : q ≤ 64
  pub work : has q
  pub none_before : (p : ℕ) → p ≤ 64 → turns_before last p < turns_before last q → has p → ⊥

-- an entry of the queue may be fetched
abbrev pub HasFetch : FrontRules → Notes → Controller → List Slot → ℕ → Type 0
HasFetch rules notes c slots q = (slot : ℕ) × MayFetch rules notes (depth_of c q) (length slots) q slot

-- a completion may be posted to the queue
abbrev pub HasPost : Controller → List Slot → ℕ → Type 0
HasPost c slots q = next_post_of c slots q ≢ None

-- each call that is told the last answer brings the turn of a queue nearer that has work: it comes within 65 calls
abbrev pub FetchesTakeTurns : Type 0
FetchesTakeTurns = (rules : FrontRules) (notes : Notes) (c : Controller) (slots : List Slot) (last q p : ℕ) → last ≤ 64 → IsNextWith (HasFetch rules notes c slots) last q
    → p ≤ 64 → HasFetch rules notes c slots p → p ≢ q → turns_before q p < turns_before last p

abbrev pub PostsTakeTurns : Type 0
PostsTakeTurns = (c : Controller) (slots : List Slot) (last q p : ℕ) → last ≤ 64 → IsNextWith (HasPost c slots) last q
    → p ≤ 64 → HasPost c slots p → p ≢ q → turns_before q p < turns_before last p
