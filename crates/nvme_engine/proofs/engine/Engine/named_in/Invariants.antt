-- None of the first commands that wait has the identifier.
use Rattle.std.proofs.Common.{◌≡◌, Bool, ℕ, Some, [], length, take, filter}
use Rattle.nvme_log.specs.Rules.{FrontRules}
use Rattle.nvme_log.specs.Queues.{Queue, open_sq}
use Rattle.nvme_log.specs.Places.{waiting, entry_at}
use Rattle.nvme_log.specs.Effects.{has_cid}
use Rattle.nvme_ctrl_log.specs.Notes.{Notes, logged}
use Rattle.nvme_engine.specs.Standing.{StandsAt}
use Rattle.nvme_engine.proofs.engine.Engine.named_in.Given as goal

abbrev pub invariant-loop-n : goal.invariant-loop-n
invariant-loop-n l = record {
  end : (rules : FrontRules) (late : Bool) (notes : Notes) → StandsAt rules late notes l.self → (queue : Queue) → open_sq (logged notes) l.qid ≡ Some queue
      → l.n-end ≡ length (waiting (logged notes) queue.region);
  none : (rules : FrontRules) (late : Bool) (notes : Notes) → StandsAt rules late notes l.self → (queue : Queue) → open_sq (logged notes) l.qid ≡ Some queue
      → filter (λ (i : ℕ). has_cid l.cid (entry_at (logged notes) queue.region i)) (take l.n (waiting (logged notes) queue.region)) ≡ [];
}
