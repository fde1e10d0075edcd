use Rattle.std.proofs.Common.{◌≢◌}
use Rattle.std.specs.List.{AllWithin}
use Rattle.nvme_audit_text.specs.Names.{rule_text, all_rules}
use Rattle.nvme_audit_text.proofs.names.rule_named.Given as goal

-- no rule before has the name
abbrev pub invariant-loop-rule : goal.invariant-loop-rule
invariant-loop-rule l = AllWithin (λ rule. rule_text rule ≢ l.fn.name) all_rules 0 l.rule-index
