use Rattle.std.proofs.Common.{subst}
use Rattle.toml.specs.View.{table_view}
use Rattle.nvme_workload.specs.declared.flaw.PlanError.{PlanError}
use Rattle.nvme_workload.specs.Plan.{plan_of, reading_of}
use Rattle.nvme_workload.specs.Readings.{FailsAt}
use Rattle.nvme_workload.proofs.Placed.{plan_of_reading, fails_without}
use Rattle.nvme_workload.proofs.file.read_document.Goals as goal

pub returns-in-Ok-clause-value : goal.returns-in-Ok-clause-value
returns-in-Ok-clause-value c = plan_of_reading (table_view c.args.table.now) (plan_of c.in-Ok.workload) c.in-Ok.ensures.value

pub returns-in-Err-At-clause-value : goal.returns-in-Err-At-clause-value
returns-in-Err-At-clause-value c =
    let table = table_view c.args.table.now in
    let read = subst (λ (e : PlanError). FailsAt e (reading_of table)) c.in-Err-At.field-0-is c.in-Err-At.ensures.value in
    rw c.fault.ensures (fails_without table c.in-Err-At.field-0-0 c.in-Err-At.flaw read)
