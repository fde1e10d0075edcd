-- The warnings so far, and those of the regions that are left, are all.
use Rattle.std.proofs.Common.{◌≡◌, ◌++◌, drop}
use Rattle.nvme_admin.specs.Standing.{used_at}
use Rattle.nvme_lint.proofs.Playing.{cqs_then}
use Rattle.nvme_lint.proofs.warnings.push_unused_cqs.Given as goal

abbrev pub invariant-loop-region : goal.invariant-loop-region
invariant-loop-region l = record {
  told : l.warnings.items ++ cqs_then (used_at l.table.cq_used) l.region (drop l.region l.plans) ≡ l.fn.warnings.items ++ cqs_then (used_at l.table.cq_used) 0 l.plans;
}
