-- What a run says of the text that was taken.
use Rattle.std.proofs.Common.{◌≡◌, IfSome, inr, rules}
use Rattle.nvme_sim.specs.Answers.{Appended, AppendedPart, HasTrace}
use Rattle.nvme_sim.specs.Inputs.{trace_of}
use Rattle.nvme_sim.proofs.Inputs.{bad_workload, of_taken}
use Rattle.nvme_sim.proofs.commands.trace.traced.Goals as goal

pub returns-in-Ok-write_trace-clause-done : goal.returns-in-Ok-write_trace-clause-done
returns-in-Ok-write_trace-clause-done g c =
    let whole : IfSome (g.R.Read.remaining c.args.input) (λ rest. c.as_slice.result.now ≡ rest) = search rules in
    let came = Appended g.W.Write.contents c.args.output.now c.write_trace.new.writer in
    let written : came (trace_of c.in-Ok.ran) = rw c.as_slice-log.ensures.value at c.in-Ok-write_trace.ensures in
    of_taken (g.R.Read.remaining c.args.input) c.as_slice.result.now (HasTrace came c.args.mode) whole
    (c.in-Ok.ran, c.in-Ok.ensures.begins, c.in-Ok.ensures.means.account, written)

pub returns-clause-failed : goal.returns-clause-failed
returns-clause-failed g c =
    let whole : IfSome (g.R.Read.remaining c.args.input) (λ rest. c.as_slice.result.now ≡ rest) = search rules in
    let came = AppendedPart g.W.Write.contents c.args.output.now c.write_trace.new.writer in
    let written : came (trace_of c.in-Ok.ran) = rw c.as_slice-log.ensures.value at c.in-Err-write_trace.ensures in
    inr (of_taken (g.R.Read.remaining c.args.input) c.as_slice.result.now (HasTrace came c.args.mode) whole
    (c.in-Ok.ran, c.in-Ok.ensures.begins, c.in-Ok.ensures.means.account, written))

pub returns-in-Err-clause-input : goal.returns-in-Err-clause-input
returns-in-Err-clause-input g c =
    let whole : IfSome (g.R.Read.remaining c.args.input) (λ rest. c.as_slice.result.now ≡ rest) = search rules in
    bad_workload (g.R.Read.remaining c.args.input) c.as_slice.result.now c.in-Err.error whole c.in-Err.ensures.means.workload
