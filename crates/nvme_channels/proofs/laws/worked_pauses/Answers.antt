use Rattle.std.proofs.Common.{refl}
use Rattle.nvme_channels.specs.Runs.{device_after, runs_on}
use Rattle.nvme_channels.proofs.laws.worked_pauses.Goals as goal

pub returns : goal.returns
unfolding device_after runs_on
returns c = record {
  pauses = refl;
  third_channel = refl;
  none_starts = refl;
  waits_for_resume = refl;
  goes_on = refl;
  none_to_resume = refl;
  other_channel = refl;
  paused_adds_nothing = refl;
}
