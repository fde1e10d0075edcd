-- The warnings so far, and those of the scripts that are left, are all.
use Rattle.std.proofs.Common.{◌≡◌, ◌++◌, drop}
use Rattle.nvme_admin.specs.Standing.{used_at}
use Rattle.nvme_lint.proofs.Playing.{scripts_then}
use Rattle.nvme_lint.proofs.scripts.push_scripts.Given as goal

abbrev pub invariant-loop-region : goal.invariant-loop-region
invariant-loop-region l = record {
  told : l.warnings.items ++ scripts_then l.spaces (used_at l.table.sq_used) l.region (drop l.region l.plans)
      ≡ l.fn.warnings.items ++ scripts_then l.spaces (used_at l.table.sq_used) 0 l.plans;
}
