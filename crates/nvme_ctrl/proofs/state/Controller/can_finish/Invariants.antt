use Rattle.std.proofs.Common.{ℕ, ◌<◌}
use Rattle.nvme_ctrl.specs.kept.State.{IsFinishable}
use Rattle.nvme_ctrl.proofs.state.Controller.can_finish.Given as goal

abbrev pub invariant-loop-qid : goal.invariant-loop-qid
invariant-loop-qid l = (q : ℕ) → q < l.qid → IsFinishable l.self q → ⊥
