use Rattle.std.proofs.Common.{◌∷◌, [], refl}
use Rattle.nvme_arbiter.specs.Settings.{settings_of}
use Rattle.nvme_arbiter.specs.Examples.{played, q, two_admin}
use Rattle.nvme_arbiter.specs.declared.settings.Mechanism.TheVariants.{RoundRobin, Weighted}
use Rattle.nvme_arbiter.proofs.ExampleRuns.{is_pick, is_lawful_run, run_by_test, not_lawful}
use Rattle.nvme_arbiter.proofs.laws.two_admin_commands.Goals as goal

pub returns : goal.returns
unfolding is_pick is_lawful_run
returns c = record {
  round_robin = record { lawful = run_by_test RoundRobin (settings_of 0x0200_0002) (played [] two_admin (q 0 1 ∷ q 1 3 ∷ q 2 1 ∷ q 0 1 ∷ [])) refl; idle = refl };
  not_by_burst = λ h. not_lawful RoundRobin (settings_of 0x0200_0002) [] two_admin (q 0 2) refl h.1;
  weighted = record { lawful = run_by_test Weighted (settings_of 0x0200_0002) (played [] two_admin (q 0 1 ∷ q 0 1 ∷ q 2 1 ∷ q 1 3 ∷ [])) refl; idle = refl };
  not_by_burst_weighted = λ h. not_lawful Weighted (settings_of 0x0200_0002) [] two_admin (q 0 2) refl h.1;
}
