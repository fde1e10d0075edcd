-- The first of the commands that wait are taken.
use Rattle.std.proofs.Common.{◌≡◌, Bool, Some, length, take}
use Rattle.nvme_log.specs.Rules.{FrontRules}
use Rattle.nvme_log.specs.Queues.{Queue, open_sq}
use Rattle.nvme_log.specs.Places.{waiting}
use Rattle.nvme_ctrl_log.specs.Notes.{Notes, logged}
use Rattle.nvme_engine.specs.Standing.{StandsAt}
use Rattle.nvme_engine.proofs.engine.Engine.waiting_in.Given as goal

abbrev pub invariant-loop-n : goal.invariant-loop-n
invariant-loop-n l = record {
  end : (rules : FrontRules) (late : Bool) (notes : Notes) → StandsAt rules late notes l.self → (queue : Queue) → open_sq (logged notes) l.qid ≡ Some queue
      → l.n-end ≡ length (waiting (logged notes) queue.region);
  taken : (rules : FrontRules) (late : Bool) (notes : Notes) → StandsAt rules late notes l.self → (queue : Queue) → open_sq (logged notes) l.qid ≡ Some queue
      → l.indexes.items ≡ take l.n (waiting (logged notes) queue.region);
}
