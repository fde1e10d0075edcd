-- A region more.
use Rattle.std.proofs.Common.{rules, ◌<◌, ◌≤◌, length}
use Rattle.nvme_admin.specs.Standing.{used_at}
use Rattle.nvme_lint.proofs.Playing.{cqs_one, cqs_all}
use Rattle.nvme_lint.proofs.warnings.push_unused_cqs.Goals as goal

pub loop-region-preserved : goal.loop-region-preserved
loop-region-preserved c =
    let i = c.loop-region.region in
    let there : i < length c.args.plans.now = search rules in record {
      told = cqs_one (used_at c.args.table.now.cq_used) c.args.plans.now i c.args.warnings.now.items c.loop-region.warnings.items c.push_unless.new.warnings.items there (search rules) c.loop-region.invariant.told;
    }

pub returns : goal.returns
returns c =
    let over : length c.args.plans.now ≤ c.loop-region.region = search rules in
    record { told = cqs_all (used_at c.args.table.now.cq_used) c.args.plans.now c.loop-region.region c.args.warnings.now.items c.loop-region.warnings.items over c.loop-region.invariant.told }
