use Rattle.std.proofs.Common.{◌∷◌, [], refl}
use Rattle.nvme_arbiter.specs.Settings.{settings_of}
use Rattle.nvme_arbiter.specs.Examples.{played, q, fresh, full_queue}
use Rattle.nvme_arbiter.specs.declared.settings.Mechanism.TheVariants.{RoundRobin, Weighted}
use Rattle.nvme_arbiter.proofs.ExampleRuns.{is_pick, is_lawful_run, run_by_test, not_lawful}
use Rattle.nvme_arbiter.proofs.laws.no_burst_limit.Goals as goal

pub returns : goal.returns
unfolding is_pick is_lawful_run
returns c = record {
  round_robin = record { lawful = run_by_test RoundRobin (settings_of 7) (played [] full_queue (q 1 256 ∷ [])) refl; idle = refl };
  weighted = run_by_test Weighted (settings_of 7) (played [] full_queue (q 1 1 ∷ fresh 1 1 ∷ fresh 1 1 ∷ [])) refl;
  other = λ h. not_lawful RoundRobin (settings_of 7) [] full_queue (q 1 128) refl h.1;
}
