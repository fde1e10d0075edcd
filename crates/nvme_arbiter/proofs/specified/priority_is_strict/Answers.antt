use Rattle.std.proofs.Common.{[], refl}
use Rattle.nvme_arbiter.specs.Settings.{settings_of}
use Rattle.nvme_arbiter.specs.Examples.{left, played, q, two_admin}
use Rattle.nvme_arbiter.specs.SpecifiedExamples.{no_admin}
use Rattle.nvme_arbiter.specs.declared.settings.Mechanism.TheVariants.{Weighted}
use Rattle.nvme_arbiter.specs.declared.specified.Rule.TheVariants as rule
use Rattle.nvme_arbiter.proofs.SpecifiedTests.{if_test, takes_candidates, within_burst_test, priority_test, within_weights, credit_test, none_has_waited, turn_test, keeps, keeps_each, is_specified_run, is_rule, breaks_alone, alone_by_test}
use Rattle.nvme_arbiter.proofs.specified.priority_is_strict.Goals as goal

pub returns : goal.returns
unfolding if_test takes_candidates within_burst_test priority_test within_weights credit_test none_has_waited turn_test keeps keeps_each is_specified_run is_rule breaks_alone
returns c = record {
  admin = alone_by_test rule.Priority Weighted (settings_of 0x0200_0002) [] two_admin (q 2 1) refl refl refl refl refl refl refl refl;
  urgent = alone_by_test rule.Priority Weighted (settings_of 0x0200_0002) (played [] two_admin no_admin) (left two_admin no_admin) (q 1 1) refl refl refl refl refl refl refl refl;
}
