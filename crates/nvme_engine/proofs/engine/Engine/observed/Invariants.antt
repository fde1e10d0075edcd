-- What is seen of the queues before it.
use Rattle.std.proofs.Common.{Bool}
use Rattle.nvme_log.specs.Rules.{FrontRules}
use Rattle.nvme_ctrl_log.specs.Notes.{Notes}
use Rattle.nvme_engine.specs.Standing.{StandsAt}
use Rattle.nvme_engine.proofs.Observed.{AreSeenBelow}
use Rattle.nvme_engine.proofs.engine.Engine.observed.Given as goal

abbrev pub invariant-loop-qid : goal.invariant-loop-qid
invariant-loop-qid l = (rules : FrontRules) (late : Bool) (notes : Notes) → StandsAt rules late notes l.self → AreSeenBelow notes l.qid l.seen.items
