use Rattle.std.proofs.Common.{◌≡◌, ◌≤◌, ℕ, List, Some, Ok}
use Rattle.nvme_lines.specs.Lines.{TakesTold}
use Rattle.nvme_trace.specs.Format.{start_of_line, head_of_kept}
use Rattle.nvme_trace.specs.inside.Steps.{AreFew}
use Rattle.nvme_trace.proofs.SurveyLemmas.{SurveyedUpTo}
use Rattle.nvme_trace.proofs.survey.surveyed.Given as goal

-- the surveyor stands after the lines so far
abbrev pub invariant-loop : goal.invariant-loop
invariant-loop g l = record {
  surveyed : (text : List ℕ) → TakesTold (λ line. start_of_line line ≡ Ok l.fn.start) 0 (Some text) l.fn.trace.number l.fn.trace.rest → SurveyedUpTo text l.trace.rest l.trace.number (head_of_kept l.fn.start) l.surveyor;
  few : AreFew l.surveyor.survey.counts l.surveyor.survey.picks;
  picks : l.surveyor.survey.picks ≤ l.counter;
}
