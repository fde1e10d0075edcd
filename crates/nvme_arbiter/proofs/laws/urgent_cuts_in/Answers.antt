use Rattle.std.proofs.Common.{refl}
use Rattle.nvme_arbiter.specs.Settings.{settings_of}
use Rattle.nvme_arbiter.specs.Examples.{played, q, before_urgent, with_urgent, with_urgent_picks}
use Rattle.nvme_arbiter.specs.declared.settings.Mechanism.TheVariants.{Weighted}
use Rattle.nvme_arbiter.proofs.ExampleRuns.{is_pick, is_lawful_run, run_by_test, not_lawful}
use Rattle.nvme_arbiter.proofs.laws.urgent_cuts_in.Goals as goal

pub returns : goal.returns
unfolding is_pick is_lawful_run
returns c = record {
  lawful = run_by_test Weighted (settings_of 0x0301_0001) (played before_urgent with_urgent with_urgent_picks) refl;
  other = λ h. not_lawful Weighted (settings_of 0x0301_0001) before_urgent with_urgent (q 3 2) refl h.1;
}
