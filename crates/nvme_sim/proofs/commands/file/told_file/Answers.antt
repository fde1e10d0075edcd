use Rattle.std.proofs.Common.{◌≡◌, IfSome}
use Rattle.nvme_short.specs.Expansion.{StandsFor}
use Rattle.nvme_sim.specs.RunAnswers.{IsRunAnswer}
use Rattle.nvme_sim.proofs.Explaining.{input_stays, value_stays}
use Rattle.nvme_sim.proofs.Inputs.{err_of_file, value_of_file}
use Rattle.nvme_sim.proofs.commands.file.told_file.Goals as goal

pub returns-clause-told : goal.returns-clause-told
returns-clause-told g c =
    let text = c.as_slice.result.now in
    let stands : IfSome (g.R.Read.remaining c.args.input) (λ bytes. StandsFor bytes text) = rw c.as_slice.ensures.value c.in_ok-file.ensures.stands in
    value_stays c.told-answer.result c.explained.result _ c.explained.ensures
    (value_of_file c.told-answer.result (g.R.Read.remaining c.args.input) text (IsRunAnswer c.args.mode c.args.digest.now) stands c.told-answer.ensures.told)

pub returns-clause-input : goal.returns-clause-input
returns-clause-input g c =
    let text = c.as_slice.result.now in
    let stands : IfSome (g.R.Read.remaining c.args.input) (λ bytes. StandsFor bytes text) = rw c.as_slice.ensures.value c.in_ok-file.ensures.stands in
    input_stays c.told-answer.result c.explained.result _ c.explained.ensures
    (err_of_file c.told-answer.result (g.R.Read.remaining c.args.input) text stands c.told-answer.ensures.input)
