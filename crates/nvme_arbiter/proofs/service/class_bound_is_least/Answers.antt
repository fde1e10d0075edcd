use Rattle.std.proofs.Common.{[], ◌++◌, refl}
use Rattle.nvme_arbiter.specs.Settings.{settings_of}
use Rattle.nvme_arbiter.specs.Service.{events_of}
use Rattle.nvme_arbiter.specs.ServiceExamples.{turns_of_class}
use Rattle.nvme_arbiter.specs.declared.settings.Mechanism.TheVariants.{Weighted}
use Rattle.nvme_arbiter.proofs.ExampleRuns.{is_pick, is_lawful_run, run_by_test}
use Rattle.nvme_arbiter.proofs.service.class_bound_is_least.Goals as goal

pub returns : goal.returns
unfolding is_pick is_lawful_run
returns c = record { lawful = run_by_test Weighted (settings_of 0) (events_of turns_of_class ++ []) refl; is_ready = refl; picks = refl; waits = refl; then_picked = refl }
