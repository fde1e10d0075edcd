-- A region more.
use Rattle.std.proofs.Common.{rules, ◌≡◌, ◌<◌, ◌≤◌, ◌++◌, length, subst}
use Rattle.nvme_admin.specs.Standing.{used_at}
use Rattle.nvme_lint.proofs.Playing.{sqs_one, sqs_all}
use Rattle.nvme_workload.specs.declared.plan.SqPlan.{SqPlan}
use Rattle.nvme_lint.specs.Warnings.{warning_unless}
use Rattle.nvme_lint.specs.declared.warning.Warning.TheVariants.{Unused}
use Rattle.nvme_lint.specs.declared.warning.Kind.TheVariants as kind
use Rattle.nvme_lint.proofs.warnings.push_unused_sqs.Goals as goal

pub loop-region-preserved : goal.loop-region-preserved
loop-region-preserved c =
    let i = c.loop-region.region in
    let x = c.index-plans-region.result in
    let there : i < length c.args.plans.now = search rules in
    let more : c.push_unless.new.warnings.items ≡ c.loop-region.warnings.items ++ warning_unless (used_at c.args.table.now.sq_used i) (Unused kind.Submission i (length x.script)) = search rules in
    record {
      told = sqs_one (used_at c.args.table.now.sq_used) c.args.plans.now i x c.args.warnings.now.items c.loop-region.warnings.items c.push_unless.new.warnings.items there
          (subst (λ (y : SqPlan). c.push_unless.new.warnings.items ≡ c.loop-region.warnings.items ++ warning_unless (used_at c.args.table.now.sq_used i) (Unused kind.Submission i (length y.script))) c.index-plans-region.is more)
          c.loop-region.invariant.told;
    }

pub returns : goal.returns
returns c =
    let over : length c.args.plans.now ≤ c.loop-region.region = search rules in
    record { told = sqs_all (used_at c.args.table.now.sq_used) c.args.plans.now c.loop-region.region c.args.warnings.now.items c.loop-region.warnings.items over c.loop-region.invariant.told }
