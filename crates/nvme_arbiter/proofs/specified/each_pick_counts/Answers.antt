use Rattle.std.proofs.Common.{◌∷◌, [], refl}
use Rattle.nvme_arbiter.specs.Settings.{settings_of}
use Rattle.nvme_arbiter.specs.Examples.{queue, q, four_queues}
use Rattle.nvme_arbiter.specs.declared.settings.Mechanism.TheVariants.{RoundRobin}
use Rattle.nvme_arbiter.specs.declared.settings.Class.TheVariants.{Low}
use Rattle.nvme_arbiter.specs.declared.specified.Rule.TheVariants as rule
use Rattle.nvme_arbiter.proofs.Observations.{no_observation}
use Rattle.nvme_arbiter.proofs.SpecifiedTests.{takes_candidates, keeps, breaks_by_test}
use Rattle.nvme_arbiter.proofs.specified.each_pick_counts.Goals as goal

pub returns : goal.returns
unfolding takes_candidates keeps
returns c = record {
  earlier = λ r. breaks_by_test rule.Candidates RoundRobin (settings_of 0) [] four_queues (q 1 0) refl (r.2.1 rule.Candidates);
  before_change = λ r. breaks_by_test rule.Candidates RoundRobin (settings_of 0) [] four_queues (q 1 0) refl (r.2.1 rule.Candidates);
  observed = λ r. no_observation (queue 1 Low 257 ∷ []) refl r.0;
}
