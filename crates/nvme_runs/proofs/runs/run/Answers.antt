-- The answer is that of the run with gates.
use Rattle.std.proofs.Common.{refl}
use Rattle.nvme_runs.proofs.Meaning.{passes_err, passes_ok}
use Rattle.nvme_runs.proofs.TooLong.{passed_on}
use Rattle.nvme_runs.proofs.runs.run.Goals as goal

pub returns-in_err-settled : goal.returns-in_err-settled
returns-in_err-settled g c =
    let e = c.in_err-settled.field-0.0 in
    let result = c.from_residual-in_err-settled.result in
    record { means = passes_err _ _ _ _ _ _ _ _ result e _ (passed_on result e c.from_residual-in_err-settled.ensures.1) c.in_ok-gates.ensures c.in_err-settled.ensures.means }

pub returns : goal.returns
returns g c =
    record { means = passes_ok _ _ _ _ _ _ _ _ (c.in_ok-settled.settled, c.in_ok-settled.field-0-1) c.in_ok-settled.settled _ refl c.in_ok-gates.ensures c.in_ok-settled.ensures.means }
