-- What the controller reads. (profile)
use Rattle.std.specs.Prelude.{ℕ, Bool, length}
use Rattle.nvme_ctrl.specs.Calls.{depth_of}
use Rattle.nvme_ctrl_log.specs.Calls.{MayFetch}
use Rattle.nvme_ctrl_log.specs.Notes.{Notes}
use Rattle.nvme_log.specs.Rules.{FrontRules}
use Rattle.nvme_simulation.specs.Fronts.{StandsBy}
use Rattle.nvme_simulation.specs.declared.front.Front.{Front}

-- the controller has read all commands of a queue that it may: those that its host submitted, as far as its window and the queue's depth have room
abbrev pub HasRead : (qid : ℕ) → Front → Type 0
HasRead qid f = (rules : FrontRules) (late : Bool) (notes : Notes) → StandsBy rules late notes f → (slot : ℕ)
    → MayFetch rules notes (depth_of f.controller qid) (length f.pool.items) qid slot → ⊥
