use Rattle.std.proofs.Common.{◌≡◌, ℕ, ◌<◌, Bool, false, Some}
use Rattle.nvme_log.specs.Rules.{FrontRules}
use Rattle.nvme_log.specs.Queues.{qid_of_region, is_closed_region}
use Rattle.nvme_ctrl_log.specs.Notes.{Notes, logged}
use Rattle.nvme_engine.specs.Standing.{StandsAt}
use Rattle.nvme_engine.proofs.engine.Engine.is_serving.Given as goal

-- none of the queues before it was opened on the region
abbrev pub invariant-loop-qid : goal.invariant-loop-qid
invariant-loop-qid l =
    (rules : FrontRules) (late : Bool) (notes : Notes) → StandsAt rules late notes l.self → (q : ℕ) → q < l.qid
    → qid_of_region (logged notes) l.region ≡ Some q → is_closed_region (logged notes) l.region ≡ false → ⊥
