-- What a run says of the text that was taken.
use Rattle.std.proofs.Common.{◌≡◌, IfSome, rules}
use Rattle.nvme_sim.specs.Answers.{Appended, HasReport}
use Rattle.nvme_sim.proofs.Inputs.{bad_workload, of_taken, run_failed}
use Rattle.nvme_sim.proofs.commands.run.ran.Goals as goal

pub returns-in-Ok-clause-done : goal.returns-in-Ok-clause-done
returns-in-Ok-clause-done g c =
    let whole : IfSome (g.R.Read.remaining c.args.input) (λ rest. c.as_slice.result.now ≡ rest) = search rules in
    of_taken (g.R.Read.remaining c.args.input) c.as_slice.result.now (HasReport (Appended g.W.Write.contents c.args.output.now c.run.new.writer) c.args.mode) whole
    (c.in-Ok.field-0, c.in-Ok.ensures.means.account, c.in-Ok.ensures.means.written)

pub returns-clause-input : goal.returns-clause-input
returns-clause-input g c =
    let whole : IfSome (g.R.Read.remaining c.args.input) (λ rest. c.as_slice.result.now ≡ rest) = search rules in
    bad_workload (g.R.Read.remaining c.args.input) c.as_slice.result.now c.in-Err.error whole c.in-Err.ensures.means.workload

pub returns-clause-failed : goal.returns-clause-failed
returns-clause-failed g c =
    let whole : IfSome (g.R.Read.remaining c.args.input) (λ rest. c.as_slice.result.now ≡ rest) = search rules in
    run_failed g.W.Write.contents c.args.output.now c.run.new.writer (g.R.Read.remaining c.args.input) c.as_slice.result.now c.args.mode c.in-Err.error whole
    c.in-Err.ensures.means.untouched c.in-Err.ensures.means.write_failed
