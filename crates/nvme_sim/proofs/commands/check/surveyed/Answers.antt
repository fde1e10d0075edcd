use Rattle.std.proofs.Common.{rules}
use Rattle.nvme_trace.specs.Surveys.{AreNone}
use Rattle.nvme_trace.specs.declared.basis.Basis.TheVariants.{Profile}
use Rattle.nvme_sim.specs.declared.commands.Answer.TheVariants as answer
use Rattle.nvme_sim.proofs.Inputs.{differing, faulty_shown, lawful_by_survey, on_done, told_differing, told_in_part_of_all, told_lawful}
use Rattle.nvme_sim.proofs.commands.check.surveyed.Goals as goal

pub returns-in-Ok-clause-lawful : goal.returns-in-Ok-clause-lawful
returns-in-Ok-clause-lawful g c = λ is.
    let none : AreNone c.in-Ok.survey.counts = search rules in
    let wrote = on_done c.put_lawful.result answer.Done _ c.put_lawful.ensures.done is in
    told_lawful Profile (g.R.Read.remaining c.args.input) c.in-Ok.survey.picks _ _ (lawful_by_survey _ c.in-Ok.survey c.in-Ok.ensures.survey none) wrote.1

pub returns-in-Ok-clause-failed : goal.returns-in-Ok-clause-failed
returns-in-Ok-clause-failed g c =
    let none : AreNone c.in-Ok.survey.counts = search rules in
    told_in_part_of_all g.W.Write.contents c.args.output.now c.put_lawful.new.output (g.R.Read.remaining c.args.input) c.in-Ok.survey.picks c.put_lawful.result
    (lawful_by_survey _ c.in-Ok.survey c.in-Ok.ensures.survey none) c.put_lawful.ensures.failed

pub returns-in-Err-clause-input : goal.returns-in-Err-clause-input
returns-in-Err-clause-input g c = faulty_shown Profile (g.R.Read.remaining c.args.input) c.in-Err.error c.in-Err.ensures.fault

pub returns-in-Ok-2-clause-failed : goal.returns-in-Ok-2-clause-failed
returns-in-Ok-2-clause-failed g c =
    let some : AreNone c.in-Ok-2.survey.counts → ⊥ = search rules in
    told_differing g.W.Write.contents c.args.output.now c.put_survey.new.output (g.R.Read.remaining c.args.input) c.put_survey.result
    (differing _ c.in-Ok-2.survey c.in-Ok-2.ensures.survey some)
