use Rattle.std.proofs.Common.{take}
use Rattle.nvme_audit.specs.declared.facts.Start.{Start}
use Rattle.nvme_audit.specs.Lives.{Past}
use Rattle.nvme_audit.specs.Lawful.{log_after, IsLawfulRun}
use Rattle.nvme_audit.specs.Standing.{StandsAt}
use Rattle.nvme_audit.proofs.judge.Judge.judge_run.Given as goal

abbrev pub invariant-loop-i : goal.invariant-loop-i
invariant-loop-i l = (start : Start) (past : Past) → StandsAt start past l.fn.self → IsLawfulRun start past (take l.i l.events) × StandsAt start (log_after past (take l.i l.events)) l.self
