use Rattle.std.proofs.Common.{rules, codes}
use Rattle.std.proofs.lemmas.Result.{IfOk-weaker}
use Rattle.clap.specs.Words.{new_app}
use Rattle.nvme_words.specs.CommandLine.{file, live, required, with_default, workers}
use Rattle.nvme_words.specs.inside.Built.{HasApp, HasRule}
use Rattle.nvme_words.proofs.Building.{rule_added}
use Rattle.nvme_words.proofs.program.run_command.Goals as goal

pub returns : goal.returns
returns c =
    let start : HasApp (new_app c.args.name.now) c.about.result = search rules in
    let first : HasRule (required file) c.required.result = search rules in
    let second : HasRule live c.action-live.result = search rules in
    let third : HasRule (with_default (codes "1") workers) c.default_value.result = search rules in
    let one = rule_added _ _ _ _ _ c.in_ok-arg.ensures start first in
    let two = rule_added _ _ _ _ _ c.in_ok-arg-2.ensures one second in
    IfOk-weaker c.arg-3.result _ _ (λ new added. rule_added _ new _ _ _ added two third) c.arg-3.ensures
