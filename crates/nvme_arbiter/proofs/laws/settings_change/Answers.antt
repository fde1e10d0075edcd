use Rattle.std.proofs.Common.{refl}
use Rattle.nvme_arbiter.specs.Settings.{settings_of}
use Rattle.nvme_arbiter.specs.Examples.{played, q, before_change, after_change, after_change_picks, four_queues_before_change, four_queues_after_change, four_queues_after_change_picks}
use Rattle.nvme_arbiter.specs.declared.settings.Mechanism.TheVariants.{RoundRobin, Weighted}
use Rattle.nvme_arbiter.proofs.ExampleRuns.{is_pick, is_lawful_run, run_by_test, not_lawful}
use Rattle.nvme_arbiter.proofs.laws.settings_change.Goals as goal

pub returns : goal.returns
unfolding is_pick is_lawful_run
returns c = record {
  weighted = run_by_test Weighted (settings_of 0x0301_0001) (played before_change after_change after_change_picks) refl;
  no_old_credit = λ h. not_lawful Weighted (settings_of 0x0301_0001) before_change after_change (q 2 1) refl h.1;
  round_robin = record { lawful = run_by_test RoundRobin (settings_of 0) (played four_queues_before_change four_queues_after_change four_queues_after_change_picks) refl; idle = refl };
  no_restart = λ h. not_lawful RoundRobin (settings_of 0) four_queues_before_change four_queues_after_change (q 0 1) refl h.1;
}
