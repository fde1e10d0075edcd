use Rattle.std.proofs.Common.{map}
use Rattle.nvme_workload.specs.declared.plan.CqPlan.{CqPlan}
use Rattle.nvme_threads.specs.declared.loaded_rings.SqEnds.{SqEnds}
use Rattle.nvme_runs.proofs.Adding.{first_apart}
use Rattle.nvme_runs.proofs.Sites.{both_added, gets_apart}
use Rattle.nvme_runs.proofs.runs.setup.add_regions.Goals as goal

pub add_sqs-requires-clause-apart : goal.add_sqs-requires-clause-apart
add_sqs-requires-clause-apart c =
    first_apart (map (λ (e : SqEnds). e.get.address) c.args.rings.items) (map (λ (p : CqPlan). p.address) c.args.plans.items) c.requires.apart

pub add_cqs-requires-clause-apart : goal.add_cqs-requires-clause-apart
add_cqs-requires-clause-apart c = gets_apart c.add_sqs.new.front c.args.rings.items c.args.plans.items c.in_ok-feeders.ensures.added.gets c.requires.apart

pub returns : goal.returns
returns c = record {
  added =
      both_added c.args.rings.items c.args.plans.items c.in_ok-feeders.feeders.items c.in_ok-drainers.drainers.items c.args.front.now c.add_sqs.new.front c.add_cqs.new.front
      c.in_ok-feeders.ensures.added c.in_ok-drainers.ensures.added;
}
