use Rattle.std.proofs.Common.{rules}
use Rattle.std.proofs.lemmas.Result.{IfOk-weaker}
use Rattle.nvme_words.proofs.Building.{rule_added}
use Rattle.nvme_words.proofs.program.simulate_command.Goals as goal

pub returns : goal.returns
returns c =
    let one = rule_added _ _ _ _ _ c.in_ok-arg.ensures c.in_ok-swept_command.ensures c.format_arg.ensures in
    let two = rule_added _ _ _ _ _ c.in_ok-arg-2.ensures one c.bounds_arg.ensures in
    let three = rule_added _ _ _ _ _ c.in_ok-arg-3.ensures two c.text_arg.ensures in
    let four = rule_added _ _ _ _ _ c.in_ok-arg-4.ensures three c.text_arg-2.ensures in
    let five = rule_added _ _ _ _ _ c.in_ok-arg-5.ensures four c.text_arg-3.ensures in
    IfOk-weaker c.arg-6.result _ _ (λ new added. rule_added _ new _ _ _ added five c.output_arg.ensures) c.arg-6.ensures
