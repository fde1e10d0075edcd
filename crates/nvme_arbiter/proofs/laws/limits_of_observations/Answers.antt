use Rattle.std.proofs.Common.{◌∷◌, [], refl}
use Rattle.nvme_arbiter.specs.Examples.{queue, at_limits}
use Rattle.nvme_arbiter.specs.declared.settings.Class.TheVariants.{Admin, Urgent, Low}
use Rattle.nvme_arbiter.proofs.Observations.{observation_by_test, no_observation}
use Rattle.nvme_arbiter.proofs.laws.limits_of_observations.Goals as goal

pub returns : goal.returns
returns c = record {
  at_limits = observation_by_test at_limits refl;
  limits = refl;
  qid_too_high = no_observation (queue 65 Low 1 ∷ []) refl;
  count_too_high = no_observation (queue 1 Low 257 ∷ []) refl;
  admin_of_a_level = no_observation (queue 0 Low 1 ∷ []) refl;
  other_admin = no_observation (queue 1 Admin 1 ∷ []) refl;
  twice = no_observation (queue 1 Low 1 ∷ queue 1 Urgent 1 ∷ []) refl;
  descending = no_observation (queue 2 Low 1 ∷ queue 1 Low 1 ∷ []) refl;
}
