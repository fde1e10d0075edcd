use Rattle.std.proofs.Common.{◌∷◌, [], refl}
use Rattle.nvme_arbiter.specs.Settings.{settings_of}
use Rattle.nvme_arbiter.specs.Examples.{left, played, q, two_rounds}
use Rattle.nvme_arbiter.specs.SpecifiedExamples.{high_nearly_spent, high_spent, one_low, then_low, urgent_between}
use Rattle.nvme_arbiter.specs.declared.settings.Mechanism.TheVariants.{Weighted}
use Rattle.nvme_arbiter.specs.declared.specified.Rule.TheVariants as rule
use Rattle.nvme_arbiter.proofs.SpecifiedTests.{if_test, takes_candidates, within_burst_test, priority_test, within_weights, credit_test, none_has_waited, turn_test, keeps, keeps_each, is_specified_run, is_rule, breaks_alone, alone_by_test}
use Rattle.nvme_arbiter.proofs.specified.credit_lasts_a_round.Goals as goal

pub returns : goal.returns
unfolding if_test takes_candidates within_burst_test priority_test within_weights credit_test none_has_waited turn_test keeps keeps_each is_specified_run is_rule breaks_alone
returns c = record {
  spent = alone_by_test rule.Credit Weighted (settings_of 0x0301_0001) (played [] two_rounds high_spent) (left two_rounds high_spent) (q 1 1) refl refl refl refl refl refl refl refl;
  nearly_spent = alone_by_test rule.Credit Weighted (settings_of 0x0301_0001) (played [] two_rounds high_nearly_spent) (left two_rounds high_nearly_spent) (q 1 2) refl refl refl refl refl refl refl refl;
  new_round = alone_by_test rule.Credit Weighted (settings_of 0x0301_0001) (played [] one_low (q 4 1 ∷ [])) (left one_low (q 4 1 ∷ [])) (q 4 2) refl refl refl refl refl refl refl refl;
  urgent = alone_by_test rule.Credit Weighted (settings_of 1) urgent_between then_low (q 1 1) refl refl refl refl refl refl refl refl;
}
