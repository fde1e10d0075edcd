use Rattle.std.proofs.lemmas.Result.{IfOk-weaker}
use Rattle.nvme_words.proofs.Building.{rule_added}
use Rattle.nvme_words.proofs.program.audit_command.Goals as goal

pub returns : goal.returns
returns c =
    let one = rule_added _ _ _ _ _ c.in_ok-arg.ensures c.in_ok-viewed_command.ensures c.all_arg.ensures in
    let two = rule_added _ _ _ _ _ c.in_ok-arg-2.ensures one c.coverage_arg.ensures in
    let three = rule_added _ _ _ _ _ c.in_ok-arg-3.ensures two c.quiet_arg.ensures in
    IfOk-weaker c.arg-4.result _ _ (λ new added. rule_added _ new _ _ _ added three c.text_arg.ensures) c.arg-4.ensures
