use Rattle.std.proofs.Common.{subst}
use Rattle.toml.specs.View.{table_view}
use Rattle.nvme_workload.specs.declared.flaw.PlanError.{PlanError}
use Rattle.nvme_workload.specs.Plan.{reading_of}
use Rattle.nvme_workload.specs.Readings.{FailsAt}
use Rattle.nvme_workload.proofs.Placed.{told_in_table}
use Rattle.nvme_workload.proofs.reading.in_document.Goals as goal

pub returns-in-Err-At-clause-fault : goal.returns-in-Err-At-clause-fault
returns-in-Err-At-clause-fault c =
    let table = table_view c.args.table.now in
    let read = subst (λ (e : PlanError). FailsAt e (reading_of table)) c.in-Err-At.field-0-is c.in-Err-At.ensures.value in
    told_in_table table c.in-Err-At.spot c.in-Err-At.flaw c.in_table.result read c.in_table.ensures
