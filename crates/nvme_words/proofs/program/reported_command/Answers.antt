use Rattle.std.proofs.Common.{rules, codes}
use Rattle.std.proofs.lemmas.Result.{IfOk-weaker}
use Rattle.nvme_words.specs.CommandLine.{run, summary}
use Rattle.nvme_words.specs.inside.Built.{HasApp, HasRule}
use Rattle.nvme_words.proofs.Building.{rule_added}
use Rattle.nvme_words.proofs.program.reported_command.Goals as goal

pub returns : goal.returns
returns c =
    let start : HasApp (run (codes "run")) c.in_ok-run_command.field-0 = search rules in
    let first : HasRule summary c.action-summary.result = search rules in
    let one = rule_added _ _ _ _ _ c.in_ok-arg.ensures start first in
    IfOk-weaker c.arg-2.result _ _ (λ new added. rule_added _ new _ _ _ added one c.text_arg.ensures) c.arg-2.ensures
