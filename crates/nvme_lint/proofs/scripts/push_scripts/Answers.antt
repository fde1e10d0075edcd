-- A script more.
use Rattle.std.proofs.Common.{rules, ◌≡◌, ◌<◌, ◌≤◌, ◌++◌, length, subst}
use Rattle.nvme_admin.specs.Standing.{used_at}
use Rattle.nvme_lint.proofs.Playing.{scripts_one, scripts_all}
use Rattle.nvme_workload.specs.declared.plan.SqPlan.{SqPlan}
use Rattle.nvme_lint.specs.Warnings.{of_script}
use Rattle.nvme_lint.proofs.scripts.push_scripts.Goals as goal

pub loop-region-preserved : goal.loop-region-preserved
loop-region-preserved c =
    let i = c.loop-region.region in
    let x = c.index-plans-region.result in
    let there : i < length c.args.plans.now = search rules in
    let more : c.push_script.new.warnings.items ≡ c.loop-region.warnings.items ++ of_script c.args.spaces.now (used_at c.args.table.now.sq_used i) i x = search rules in
    record {
      told = scripts_one c.args.spaces.now (used_at c.args.table.now.sq_used) c.args.plans.now i x c.args.warnings.now.items c.loop-region.warnings.items c.push_script.new.warnings.items there
          (subst (λ (y : SqPlan). c.push_script.new.warnings.items ≡ c.loop-region.warnings.items ++ of_script c.args.spaces.now (used_at c.args.table.now.sq_used i) i y) c.index-plans-region.is more)
          c.loop-region.invariant.told;
    }

pub returns : goal.returns
returns c =
    let over : length c.args.plans.now ≤ c.loop-region.region = search rules in
    record { told = scripts_all c.args.spaces.now (used_at c.args.table.now.sq_used) c.args.plans.now c.loop-region.region c.args.warnings.now.items c.loop-region.warnings.items over c.loop-region.invariant.told }
