-- The regions of a workload as those of a table. (profile)
use Rattle.nvme_admin.specs.declared.region.Region.{Region}
use Rattle.nvme_workload.specs.declared.plan.SqPlan.{SqPlan}
use Rattle.nvme_workload.specs.declared.plan.CqPlan.{CqPlan}

-- a submission region
abbrev pub sq_site : SqPlan → Region
sq_site plan = record { address = plan.address; slots = plan.slots }

-- a completion region
abbrev pub cq_site : CqPlan → Region
cq_site plan = record { address = plan.address; slots = plan.slots }
