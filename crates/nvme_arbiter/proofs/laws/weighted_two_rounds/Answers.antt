use Rattle.std.proofs.Common.{◌∷◌, [], refl}
use Rattle.nvme_arbiter.specs.Settings.{settings_of}
use Rattle.nvme_arbiter.specs.Examples.{played, q, left, two_rounds, two_rounds_picks}
use Rattle.nvme_arbiter.specs.declared.settings.Mechanism.TheVariants.{Weighted}
use Rattle.nvme_arbiter.proofs.ExampleRuns.{is_pick, is_lawful_run, run_by_test, not_lawful}
use Rattle.nvme_arbiter.proofs.laws.weighted_two_rounds.Goals as goal

pub returns : goal.returns
unfolding is_pick is_lawful_run
returns c = record {
  lawful = record { lawful = run_by_test Weighted (settings_of 0x0301_0001) (played [] two_rounds two_rounds_picks) refl; idle = refl };
  other = λ h. not_lawful Weighted (settings_of 0x0301_0001) (played [] two_rounds (q 1 2 ∷ q 2 2 ∷ q 3 2 ∷ q 4 1 ∷ [])) (left two_rounds (q 1 2 ∷ q 2 2 ∷ q 3 2 ∷ q 4 1 ∷ [])) (q 1 2) refl h.1;
}
