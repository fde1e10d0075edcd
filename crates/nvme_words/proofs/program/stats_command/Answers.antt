use Rattle.std.proofs.Common.{rules, codes}
use Rattle.std.proofs.lemmas.Result.{IfOk-weaker}
use Rattle.nvme_words.specs.CommandLine.{backlogged, ranged, window}
use Rattle.nvme_words.specs.inside.Built.{HasApp, HasRule}
use Rattle.nvme_words.proofs.Building.{rule_added}
use Rattle.nvme_words.proofs.program.stats_command.Goals as goal

pub returns : goal.returns
returns c =
    let start : HasApp (ranged (codes "stats")) c.in_ok-ranged_command.field-0 = search rules in
    let first : HasRule backlogged c.backlogged_arg.result = c.backlogged_arg.ensures in
    let second : HasRule window c.window_arg.result = c.window_arg.ensures in
    let one = rule_added _ _ _ _ _ c.in_ok-arg.ensures start first in
    let two = rule_added _ _ _ _ _ c.in_ok-arg-2.ensures one second in
    IfOk-weaker c.arg-3.result _ _ (λ new added. rule_added _ new _ _ _ added two c.format_arg.ensures) c.arg-3.ensures
