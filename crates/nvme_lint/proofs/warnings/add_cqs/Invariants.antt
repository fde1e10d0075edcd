-- The regions so far stand in the table, and what is left of the plans leads to the same history.
use Rattle.std.proofs.Common.{◌≡◌, map, take, drop}
use Rattle.nvme_admin.specs.History.{Start, TableHistory}
use Rattle.nvme_admin.specs.Standing.{StandsAt}
use Rattle.nvme_lint.specs.Warnings.{with_cqs}
use Rattle.nvme_lint.specs.inside.Regions.{sq_site, cq_site}
use Rattle.nvme_lint.proofs.warnings.add_cqs.Given as goal

abbrev pub invariant-loop-plan : goal.invariant-loop-plan
invariant-loop-plan l = record {
  sqs : l.table.sq_regions ≡ map sq_site l.sqs;
  cqs : l.table.cq_regions ≡ map cq_site (take l.plan-index l.plans);
  stands : (start : Start) (h : TableHistory) → StandsAt start l.fn.table h
      → (now : TableHistory) × StandsAt start l.table now × (with_cqs now (drop l.plan-index l.plans) ≡ with_cqs h l.plans);
}
