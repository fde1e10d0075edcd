-- The regions so far stand in the table, and what is left of the plans leads to the same history.
use Rattle.std.proofs.Common.{◌≡◌, [], map, take, drop}
use Rattle.nvme_admin.specs.History.{Start, TableHistory}
use Rattle.nvme_admin.specs.Standing.{StandsAt}
use Rattle.nvme_lint.specs.Warnings.{with_sqs}
use Rattle.nvme_lint.specs.inside.Regions.{sq_site}
use Rattle.nvme_lint.proofs.warnings.add_sqs.Given as goal

abbrev pub invariant-loop-plan : goal.invariant-loop-plan
invariant-loop-plan l = record {
  sqs : l.table.sq_regions ≡ map sq_site (take l.plan-index l.plans);
  cqs : l.table.cq_regions ≡ [];
  stands : (start : Start) (h : TableHistory) → StandsAt start l.fn.table h
      → (now : TableHistory) × StandsAt start l.table now × (with_sqs now (drop l.plan-index l.plans) ≡ with_sqs h l.plans);
}
