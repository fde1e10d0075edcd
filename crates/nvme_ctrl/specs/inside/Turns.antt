-- The turns of the queues that are in a set (profile).
use Rattle.std.specs.Prelude.{◌≡◌, ℕ, ◌<◌, ◌≤◌, false}
use Rattle.nvme_ctrl.specs.NextQueue.{turns_before}
use Rattle.nvme_ctrl.specs.kept.QueueSets.{has_queue}

-- no queue that is in a set has its turn from one on
abbrev pub HasNoTurn : (set last turn : ℕ) → Type 0
HasNoTurn set last turn = (p : ℕ) → p ≤ 64 → turn ≤ turns_before last p → has_queue set p ≡ false

-- the first turn, from one on, of a queue that is in a set
pub record IsNextTurn (set last turn next : ℕ) : Type 0 where
  pub from : turn ≤ next
  pub few : next ≤ 64
  pub none_between : (p : ℕ) → p ≤ 64 → turn ≤ turns_before last p → turns_before last p < next → has_queue set p ≡ false
