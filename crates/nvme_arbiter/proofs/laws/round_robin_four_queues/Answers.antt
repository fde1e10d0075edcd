use Rattle.std.proofs.Common.{◌∷◌, [], refl}
use Rattle.nvme_arbiter.specs.Settings.{settings_of}
use Rattle.nvme_arbiter.specs.Examples.{played, q, left, four_queues, four_queues_picks}
use Rattle.nvme_arbiter.specs.declared.settings.Mechanism.TheVariants.{RoundRobin}
use Rattle.nvme_arbiter.proofs.ExampleRuns.{is_pick, is_lawful_run, run_by_test, not_lawful}
use Rattle.nvme_arbiter.proofs.laws.round_robin_four_queues.Goals as goal

pub returns : goal.returns
unfolding is_pick is_lawful_run
returns c = record {
  lawful = record { lawful = run_by_test RoundRobin (settings_of 0) (played [] four_queues four_queues_picks) refl; idle = refl };
  other = λ h. not_lawful RoundRobin (settings_of 0) (played [] four_queues (q 0 1 ∷ q 1 1 ∷ [])) (left four_queues (q 0 1 ∷ q 1 1 ∷ [])) (q 0 1) refl h.1;
}
