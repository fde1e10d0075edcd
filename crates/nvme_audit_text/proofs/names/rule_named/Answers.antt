use Rattle.std.proofs.Common.{◌≢◌, rules, tests}
use Rattle.std.specs.List.{HoldsAt}
use Rattle.std.proofs.lemmas.List.Elements.{AllWithin-more}
use Rattle.nvme_audit.specs.declared.verdict.Rule.{Rule}
use Rattle.nvme_audit_text.specs.Names.{rule_text, all_rules}
use Rattle.nvme_audit_text.proofs.names.rule_named.Goals as goal

pub loop-rule-preserved : goal.loop-rule-preserved
loop-rule-preserved c =
    let other : HoldsAt (λ (rule : Rule). rule_text rule ≢ c.args.name.now) all_rules c.loop-rule.rule-index = search (rules, tests) in
    AllWithin-more (λ (rule : Rule). rule_text rule ≢ c.args.name.now) all_rules 0 c.loop-rule.rule-index c.loop-rule.invariant other
