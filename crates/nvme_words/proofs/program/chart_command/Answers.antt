use Rattle.std.proofs.Common.{rules, codes}
use Rattle.std.proofs.lemmas.Result.{IfOk-weaker}
use Rattle.nvme_words.specs.CommandLine.{ranged}
use Rattle.nvme_words.specs.inside.Built.{HasApp}
use Rattle.nvme_words.proofs.Building.{rule_added}
use Rattle.nvme_words.proofs.program.chart_command.Goals as goal

pub returns : goal.returns
returns c =
    let start : HasApp (ranged (codes "chart")) c.in_ok-ranged_command.field-0 = search rules in
    let one = rule_added _ _ _ _ _ c.in_ok-arg.ensures start c.no_admin_arg.ensures in
    IfOk-weaker c.arg-2.result _ _ (λ new added. rule_added _ new _ _ _ added one c.output_arg.ensures) c.arg-2.ensures
