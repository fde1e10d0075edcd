use Rattle.std.proofs.Common.{◌∷◌, [], refl}
use Rattle.nvme_arbiter.specs.Settings.{settings_of}
use Rattle.nvme_arbiter.specs.Examples.{four_queues, left, played, q}
use Rattle.nvme_arbiter.specs.SpecifiedExamples.{before_newcomer, newcomer, over_change, two_high, two_urgent, urgent_within}
use Rattle.nvme_arbiter.specs.declared.settings.Mechanism.TheVariants.{RoundRobin, Weighted}
use Rattle.nvme_arbiter.specs.declared.specified.Rule.TheVariants as rule
use Rattle.nvme_arbiter.proofs.SpecifiedTests.{if_test, takes_candidates, within_burst_test, priority_test, within_weights, credit_test, none_has_waited, turn_test, keeps, keeps_each, is_specified_run, is_rule, breaks_alone, alone_by_test}
use Rattle.nvme_arbiter.proofs.specified.turns_are_taken.Goals as goal

pub returns : goal.returns
unfolding if_test takes_candidates within_burst_test priority_test within_weights credit_test none_has_waited turn_test keeps keeps_each is_specified_run is_rule breaks_alone
returns c = record {
  round_robin = alone_by_test rule.Turn RoundRobin (settings_of 0) (played [] four_queues (q 1 1 ∷ [])) (left four_queues (q 1 1 ∷ [])) (q 1 1) refl refl refl refl refl refl refl refl;
  changed = alone_by_test rule.Turn RoundRobin (settings_of 0) over_change (left four_queues (q 1 1 ∷ [])) (q 1 1) refl refl refl refl refl refl refl refl;
  urgent = alone_by_test rule.Turn Weighted (settings_of 0) (played [] two_urgent (q 1 1 ∷ [])) (left two_urgent (q 1 1 ∷ [])) (q 1 1) refl refl refl refl refl refl refl refl;
  level = alone_by_test rule.Turn Weighted (settings_of 0x0301_0001) urgent_within two_high (q 1 1) refl refl refl refl refl refl refl refl;
  late = alone_by_test rule.Turn RoundRobin (settings_of 0) (played before_newcomer newcomer (q 1 1 ∷ [])) (left newcomer (q 1 1 ∷ [])) (q 1 1) refl refl refl refl refl refl refl refl;
}
