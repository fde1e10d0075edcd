use Rattle.std.proofs.Common.{[], refl}
use Rattle.nvme_arbiter.specs.Settings.{settings_of}
use Rattle.nvme_arbiter.specs.Examples.{four_queues, q}
use Rattle.nvme_arbiter.specs.declared.settings.Mechanism.TheVariants.{RoundRobin}
use Rattle.nvme_arbiter.specs.declared.specified.Rule.TheVariants as rule
use Rattle.nvme_arbiter.proofs.SpecifiedTests.{if_test, takes_candidates, within_burst_test, priority_test, within_weights, credit_test, none_has_waited, turn_test, keeps, keeps_each, is_specified_run, is_rule, breaks_alone, alone_by_test}
use Rattle.nvme_arbiter.proofs.specified.candidates_are_taken.Goals as goal

pub returns : goal.returns
unfolding if_test takes_candidates within_burst_test priority_test within_weights credit_test none_has_waited turn_test keeps keeps_each is_specified_run is_rule breaks_alone
returns c = record {
  none = alone_by_test rule.Candidates RoundRobin (settings_of 0) [] four_queues (q 1 0) refl refl refl refl refl refl refl refl;
  too_many = alone_by_test rule.Candidates RoundRobin (settings_of 7) [] four_queues (q 3 2) refl refl refl refl refl refl refl refl;
  empty = alone_by_test rule.Candidates RoundRobin (settings_of 0) [] four_queues (q 2 1) refl refl refl refl refl refl refl refl;
  unseen = alone_by_test rule.Candidates RoundRobin (settings_of 0) [] four_queues (q 9 1) refl refl refl refl refl refl refl refl;
}
