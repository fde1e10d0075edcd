use Rattle.std.proofs.Common.{length, ap, arith}
use Rattle.nvme_runs.proofs.Fitting.{fits_more, first_at}
use Rattle.nvme_runs.proofs.runs.setup.first_too_long.Goals as goal

pub returns-then-as_slice-from-clause-some : goal.returns-then-as_slice-from-clause-some
returns-then-as_slice-from-clause-some c =
    let inv = c.loop-plan.invariant in
    first_at c.args.submissions.now c.loop-plan.plan-index c.loop-plan.region c.plan-item.result (omega arith) c.plan-item.is inv.1 inv.0
    (omega (arith, ap length c.as_slice.ensures.items, c.from.ensures))

pub loop-plan-preserved : goal.loop-plan-preserved
loop-plan-preserved c =
    let inv = c.loop-plan.invariant in (
      fits_more c.args.submissions.now c.loop-plan.plan-index c.plan-item.result (omega arith) c.plan-item.is inv.0
          (omega (arith, ap length c.as_slice.ensures.items, c.from.ensures)),
      omega (arith, inv.1),
    )
