use Rattle.std.proofs.Common.{rules}
use Rattle.std.proofs.lemmas.Result.{IfOk-weaker}
use Rattle.nvme_words.specs.CommandLine.{trace}
use Rattle.nvme_words.specs.inside.Built.{HasApp}
use Rattle.nvme_words.proofs.Building.{rule_added}
use Rattle.nvme_words.proofs.program.ranged_command.Goals as goal

pub returns : goal.returns
returns c =
    let start : HasApp (trace c.args.name.now) c.in_ok-trace_command.field-0 = search rules in
    let one = rule_added _ _ _ _ _ c.in_ok-arg.ensures start c.first_arg.ensures in
    IfOk-weaker c.arg-2.result _ _ (λ new added. rule_added _ new _ _ _ added one c.last_arg.ensures) c.arg-2.ensures
