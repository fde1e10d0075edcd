use Rattle.std.proofs.Common.{◌≡◌, IfSome, inl, inr}
use Rattle.nvme_short.specs.Expansion.{StandsFor}
use Rattle.nvme_sim.specs.Answers.{Appended, AppendedPart, HasReport}
use Rattle.nvme_sim.proofs.Explaining.{answer_stays, done_stays, failed_stays, input_stays, run_write_stays}
use Rattle.nvme_sim.proofs.Inputs.{ok_of_file, err_of_file, failed_of_file}
use Rattle.nvme_sim.specs.declared.commands.Answer.TheVariants as answer
use Rattle.nvme_sim.proofs.commands.file.ran_file.Goals as goal

pub returns-clause-done : goal.returns-clause-done
returns-clause-done g c =
    let text = c.as_slice.result.now in
    let stands : IfSome (g.R.Read.remaining c.args.input) (λ bytes. StandsFor bytes text) = rw c.as_slice.ensures.value c.in_ok-file.ensures.stands in
    done_stays c.ran-answer.result c.explained.result _ c.explained.ensures
    (ok_of_file c.ran-answer.result (g.R.Read.remaining c.args.input) text (HasReport (Appended g.W.Write.contents c.args.output.now c.ran-answer.new.output) c.args.mode) stands c.ran-answer.ensures.done)

pub returns-clause-input : goal.returns-clause-input
returns-clause-input g c =
    let text = c.as_slice.result.now in
    let stands : IfSome (g.R.Read.remaining c.args.input) (λ bytes. StandsFor bytes text) = rw c.as_slice.ensures.value c.in_ok-file.ensures.stands in
    input_stays c.ran-answer.result c.explained.result _ c.explained.ensures
    (err_of_file c.ran-answer.result (g.R.Read.remaining c.args.input) text stands c.ran-answer.ensures.input)

pub returns-clause-untouched : goal.returns-clause-untouched
returns-clause-untouched g c = run_write_stays c.ran-answer.result c.explained.result _ c.explained.ensures c.ran-answer.ensures.untouched

pub returns-clause-failed : goal.returns-clause-failed
returns-clause-failed g c =
    let text = c.as_slice.result.now in
    let stands : IfSome (g.R.Read.remaining c.args.input) (λ bytes. StandsFor bytes text) = rw c.as_slice.ensures.value c.in_ok-file.ensures.stands in
    failed_stays c.ran-answer.result c.explained.result _ c.explained.ensures
    (failed_of_file c.ran-answer.result (c.ran-answer.new.output ≡ c.args.output.now) (g.R.Read.remaining c.args.input) text (HasReport (AppendedPart g.W.Write.contents c.args.output.now c.ran-answer.new.output) c.args.mode) stands c.ran-answer.ensures.failed)

pub returns-clause-no_other : goal.returns-clause-no_other
returns-clause-no_other g c = λ auto. elim auto [
  | inl w ↦ c.ran-answer.ensures.no_other (inl (answer_stays c.ran-answer.result c.explained.result answer.Warned c.explained.ensures w))
  | inr r ↦ c.ran-answer.ensures.no_other (inr (answer_stays c.ran-answer.result c.explained.result answer.Refused c.explained.ensures r))
]
