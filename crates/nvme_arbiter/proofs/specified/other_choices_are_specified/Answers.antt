use Rattle.std.proofs.Common.{◌∷◌, [], refl}
use Rattle.nvme_arbiter.specs.Settings.{settings_of}
use Rattle.nvme_arbiter.specs.Examples.{played, q, two_rounds, two_admin}
use Rattle.nvme_arbiter.specs.SpecifiedExamples.{newcomer, before_newcomer, levels_in_turn}
use Rattle.nvme_arbiter.specs.declared.settings.Mechanism.TheVariants.{RoundRobin, Weighted}
use Rattle.nvme_arbiter.proofs.SpecifiedTests.{if_test, takes_candidates, within_burst_test, priority_test, within_weights, credit_test, none_has_waited, turn_test, keeps, keeps_each, is_specified_run, run_by_test, unlawful_by_test}
use Rattle.nvme_arbiter.proofs.ExampleRuns.{is_pick, is_lawful_run}
use Rattle.nvme_arbiter.proofs.specified.other_choices_are_specified.Goals as goal

pub returns : goal.returns
unfolding if_test takes_candidates within_burst_test priority_test within_weights credit_test none_has_waited turn_test keeps keeps_each is_specified_run is_pick is_lawful_run
returns c = record {
  levels = record {
    allowed = run_by_test Weighted (settings_of 0x0301_0001) (played [] two_rounds levels_in_turn) refl;
    not_by_profile = unlawful_by_test Weighted (settings_of 0x0301_0001) (played [] two_rounds levels_in_turn) refl;
  };
  admin = record {
    allowed = run_by_test RoundRobin (settings_of 0x0200_0002) (played [] two_admin (q 0 2 ∷ q 1 3 ∷ q 2 1 ∷ [])) refl;
    not_by_profile = unlawful_by_test RoundRobin (settings_of 0x0200_0002) (played [] two_admin (q 0 2 ∷ q 1 3 ∷ q 2 1 ∷ [])) refl;
  };
  late = record {
    allowed = run_by_test RoundRobin (settings_of 0) (played before_newcomer newcomer (q 1 1 ∷ [])) refl;
    not_by_profile = unlawful_by_test RoundRobin (settings_of 0) (played before_newcomer newcomer (q 1 1 ∷ [])) refl;
  };
}
