use Rattle.std.proofs.Common.{◌≡◌, ◌≤◌, ℕ, List, Some, Ok}
use Rattle.nvme_lines.specs.Lines.{TakesTold}
use Rattle.nvme_trace.specs.Format.{start_of_line, head_of_kept}
use Rattle.nvme_trace.specs.Bases.{picks_by}
use Rattle.nvme_trace.specs.Checks.{JudgedUpTo}
use Rattle.nvme_trace.proofs.verdicts.judged.Given as goal

-- the judge stands after the lines so far
abbrev pub invariant-loop : goal.invariant-loop
invariant-loop g l = record {
  judged : (text : List ℕ) → TakesTold (λ line. start_of_line line ≡ Ok l.fn.start) 0 (Some text) l.fn.trace.number l.fn.trace.rest → JudgedUpTo l.fn.basis text l.trace.rest l.trace.number (head_of_kept l.fn.start) l.judge;
  picks : picks_by l.judge ≤ l.counter;
}
