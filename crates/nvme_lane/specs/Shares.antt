-- The shares of a lane: over all passes, each item was pushed as often as it was popped plus as often as it was left.
-- (profile)
use Rattle.std.specs.Prelude.{◌≡◌, ℕ, ◌+◌, List, length, sum_by}
use Rattle.nvme_lane.specs.Passes.{PassView, weight_of}

-- `count` items are left; `shares` weighs the items in any way, so that the weight 1 for one item and 0 for the others counts that item
pub record IsShared {T : Type 0} (pushes pops : List (PassView T)) (count : ℕ) : Type 0 where
  pub left : List T
  pub number : length left ≡ count
  pub shares : (h : T → ℕ) → weight_of h pushes ≡ weight_of h pops + sum_by h left
