use Rattle.std.proofs.lemmas.Result.{IfOk-weaker}
use Rattle.nvme_words.proofs.Building.{rule_added}
use Rattle.nvme_words.proofs.program.swept_command.Goals as goal

pub returns : goal.returns
returns c =
    let one = rule_added _ _ _ _ _ c.in_ok-arg.ensures c.in_ok-bounded_command.ensures c.sweep_arg.ensures in
    let two = rule_added _ _ _ _ _ c.in_ok-arg-2.ensures one c.seeds_arg.ensures in
    let three = rule_added _ _ _ _ _ c.in_ok-arg-3.ensures two c.jobs_arg.ensures in
    let four = rule_added _ _ _ _ _ c.in_ok-arg-4.ensures three c.points_arg.ensures in
    let five = rule_added _ _ _ _ _ c.in_ok-arg-5.ensures four c.no_head_arg.ensures in
    IfOk-weaker c.arg-6.result _ _ (λ new added. rule_added _ new _ _ _ added five c.text_arg.ensures) c.arg-6.ensures
