use Rattle.std.proofs.Common.{sym, subst}
use Rattle.std.specs.List.{AllZip}
use Rattle.nvme_pool.specs.Pool.{IsPool}
use Rattle.nvme_workload.specs.Plan.{plan_of}
use Rattle.nvme_runs.specs.inside.Prepared.{IsRingOf, IsFrontOf}
use Rattle.nvme_runs.proofs.Rings.{are_fresh}
use Rattle.nvme_runs.proofs.Sites.{prepared_by, regions_apart, rings_few}
use Rattle.nvme_runs.proofs.runs.setup.prepare.Goals as goal

pub front_of-requires-clause-rings : goal.front_of-requires-clause-rings
front_of-requires-clause-rings g c = are_fresh c.into_vec.result.items c.in_ok-lanes.rings.items c.in_ok-lanes.ensures.rings

pub front_of-requires-clause-apart : goal.front_of-requires-clause-apart
front_of-requires-clause-apart g c =
    let plan = plan_of c.args.workload in
    regions_apart c.in_ok-lanes.rings.items plan.submissions c.into_vec.result.items plan.completions c.into_vec-2.result.items c.into_vec.ensures.items
    c.in_ok-lanes.ensures.rings c.into_vec-2.ensures.items c.requires.sound.completions.apart

pub front_of-requires-clause-few_rings : goal.front_of-requires-clause-few_rings
front_of-requires-clause-few_rings g c =
    rings_few c.in_ok-lanes.rings.items (plan_of c.args.workload).submissions c.into_vec.result.items c.into_vec.ensures.items c.in_ok-lanes.ensures.rings
    c.requires.sound.submission_count.1

pub returns-clause-prepared : goal.returns-clause-prepared
returns-clause-prepared g c =
    let plan = plan_of c.args.workload in
    let rings = c.in_ok-lanes.rings.items in
    prepared_by plan c.config_of-config.result _ rings c.in-Ok.made.1 c.config_of-config.ensures
    (subst (λ ps. IsFrontOf c.config_of-config.result c.in-Ok.made.1 rings ps c.in_ok-front.feeders.items c.in_ok-front.drainers.items c.in_ok-front.front) c.into_vec-2.ensures.items c.in_ok-front.ensures.made)
    (subst (λ ps. AllZip IsRingOf ps rings) c.into_vec.ensures.items c.in_ok-lanes.ensures.rings)
    (subst (λ lane. IsPool lane c.in-Ok.made.1 c.in-Ok.made.2.items) (sym c.in_ok-lanes.ensures.lanes) c.in-Ok.ensures.pool) c.in-Ok.ensures.blank c.requires.sound.submission_count.0 c.requires.sound.completion_count.0
