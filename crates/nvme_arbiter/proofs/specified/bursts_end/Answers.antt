use Rattle.std.proofs.Common.{[], refl}
use Rattle.nvme_arbiter.specs.Settings.{settings_of}
use Rattle.nvme_arbiter.specs.Examples.{four_queues, q, two_rounds}
use Rattle.nvme_arbiter.specs.declared.settings.Mechanism.TheVariants.{RoundRobin, Weighted}
use Rattle.nvme_arbiter.specs.declared.specified.Rule.TheVariants as rule
use Rattle.nvme_arbiter.proofs.SpecifiedTests.{if_test, takes_candidates, within_burst_test, priority_test, within_weights, credit_test, none_has_waited, turn_test, keeps, keeps_each, is_specified_run, is_rule, breaks_alone, alone_by_test}
use Rattle.nvme_arbiter.proofs.specified.bursts_end.Goals as goal

pub returns : goal.returns
unfolding if_test takes_candidates within_burst_test priority_test within_weights credit_test none_has_waited turn_test keeps keeps_each is_specified_run is_rule breaks_alone
returns c = record {
  round_robin = alone_by_test rule.Burst RoundRobin (settings_of 1) [] four_queues (q 1 3) refl refl refl refl refl refl refl refl;
  weighted = alone_by_test rule.Burst Weighted (settings_of 0x0301_0001) [] two_rounds (q 1 3) refl refl refl refl refl refl refl refl;
}
