use Rattle.std.proofs.Common.{◌≡◌, ℕ, List, Some, Ok}
use Rattle.nvme_lines.specs.Lines.{TakesTold}
use Rattle.nvme_audit_text.specs.Format.{head_of_line}
use Rattle.nvme_audit_text.specs.inside.Steps.{JudgedUpTo, SaidUpTo}
use Rattle.nvme_audit_text.proofs.whole.audited.Given as goal

-- the auditors stand after the lines so far
abbrev pub invariant-loop : goal.invariant-loop
invariant-loop g l = (text : List ℕ) → TakesTold (λ line. head_of_line l.fn.through line ≡ Ok l.fn.head) 0 (Some text) l.fn.lines.number l.fn.lines.rest
    → JudgedUpTo l.fn.through text l.lines.rest l.lines.number l.fn.head l.auditor × SaidUpTo l.fn.through text l.lines.rest l.lines.number l.fn.head l.picks
