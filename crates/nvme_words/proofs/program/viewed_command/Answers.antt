use Rattle.std.proofs.Common.{codes, rules}
use Rattle.std.proofs.lemmas.Result.{IfOk-weaker}
use Rattle.clap.specs.Words.{new_app}
use Rattle.nvme_words.specs.inside.Built.{HasApp}
use Rattle.nvme_words.proofs.Building.{rule_added}
use Rattle.nvme_words.proofs.program.viewed_command.Goals as goal

pub returns : goal.returns
returns c =
    let start : HasApp (new_app (codes "audit")) c.after_help.result = search rules in
    let one = rule_added _ _ _ _ _ c.in_ok-arg.ensures start c.file_arg.ensures in
    let two = rule_added _ _ _ _ _ c.in_ok-arg-2.ensures one c.text_arg.ensures in
    let three = rule_added _ _ _ _ _ c.in_ok-arg-3.ensures two c.text_arg-2.ensures in
    IfOk-weaker c.arg-4.result _ _ (λ new added. rule_added _ new _ _ _ added three c.text_arg-3.ensures) c.arg-4.ensures
