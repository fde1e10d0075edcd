use Rattle.std.proofs.Common.{refl, rules}
use Rattle.std.proofs.lemmas.Result.{IfOk-weaker}
use Rattle.nvme_words.specs.CommandLine.{alone, settings}
use Rattle.nvme_words.specs.inside.Built.{HasApp}
use Rattle.nvme_words.proofs.program.program.Goals as goal

pub returns : goal.returns
returns c =
    let start : HasApp alone c.subcommand_required-program.result = search rules in
    let one = c.in_ok-with_run.ensures alone start in
    let two = c.in_ok-shown.ensures _ one in
    let three = c.with_file.ensures _ two in
    let four = c.in_ok-set.ensures _ settings refl three c.settings_command.ensures in
    IfOk-weaker c.with_input.result _ _ (λ command is. (_, search rules, is)) (c.with_input.ensures _ four)
