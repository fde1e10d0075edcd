use Rattle.std.proofs.Common.{codes, rules}
use Rattle.std.proofs.lemmas.Result.{IfOk-weaker}
use Rattle.clap.specs.Words.{new_app}
use Rattle.nvme_words.specs.CommandLine.{spec}
use Rattle.nvme_words.specs.inside.Built.{HasApp, HasRule}
use Rattle.nvme_words.proofs.Building.{rule_added}
use Rattle.nvme_words.proofs.program.check_command.Goals as goal

pub returns : goal.returns
returns c =
    let start : HasApp (new_app (codes "check")) c.after_help.result = search rules in
    let first : HasRule spec c.action-spec.result = search rules in
    let one = rule_added _ _ _ _ _ c.in_ok-arg.ensures start c.file_arg.ensures in
    let two = rule_added _ _ _ _ _ c.in_ok-arg-2.ensures one first in
    let three = rule_added _ _ _ _ _ c.in_ok-arg-3.ensures two c.all_arg.ensures in
    let four = rule_added _ _ _ _ _ c.in_ok-arg-4.ensures three c.quiet_arg.ensures in
    IfOk-weaker c.arg-5.result _ _ (λ new added. rule_added _ new _ _ _ added four c.text_arg.ensures) c.arg-5.ensures
