use Rattle.std.proofs.Common.{rules}
use Rattle.std.proofs.lemmas.Result.{IfOk-weaker}
use Rattle.nvme_words.specs.inside.Built.{HasApp}
use Rattle.nvme_words.proofs.Building.{subcommand_added}
use Rattle.nvme_words.proofs.program.with.Goals as goal

pub returns : goal.returns
returns c = λ app sub plain program subcommand.
    let old : HasApp app c.in_ok-program.field-0 = search rules in
    let of : HasApp sub c.in_ok-subcommand.field-0 = search rules in
    IfOk-weaker c.subcommand.result _ _ (λ new added. subcommand_added _ _ new app sub added plain old of) c.subcommand.ensures
