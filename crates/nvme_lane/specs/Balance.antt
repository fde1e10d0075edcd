-- The rule of a lane, which each step keeps: what was pushed over all passes is what was popped over all passes and what the lane holds, however the items are weighed.
-- (profile)
use Rattle.std.specs.Prelude.{◌≡◌, ℕ, ◌+◌, List, [], sum_by}
use mathlib.Core.Option.{some}
use lib.ListN.{get_elem?}
use Rattle.nvme_lane.specs.declared.rule.Hand.{Hand}
use Rattle.nvme_lane.specs.Passes.{whole}

module _ {T : Type 0} where
  -- a pass with no part has pushed and popped nothing
  abbrev pub IdleIsEmpty : List (Hand T) → Type 0
  IdleIsEmpty views = (port : ℕ) (v : Hand T) → get_elem? views port ≡ some v → v.parts ≡ 0 → (v.put ≡ []) × (v.taken ≡ [])

  pub record Balanced (items : List T) (views : List (Hand T)) : Type 0 where
    pub parts : sum_by (λ (v : Hand T). v.parts) views ≡ whole
    pub shares : (h : T → ℕ) → sum_by (λ (v : Hand T). sum_by h v.put) views ≡ sum_by (λ (v : Hand T). sum_by h v.taken) views + sum_by h items
    pub idle : IdleIsEmpty views
