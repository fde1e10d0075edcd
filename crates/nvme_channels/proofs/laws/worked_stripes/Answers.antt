use Rattle.std.proofs.Common.{refl}
use Rattle.nvme_channels.specs.Runs.{device_after}
use Rattle.nvme_channels.proofs.laws.worked_stripes.Goals as goal

pub returns : goal.returns
unfolding device_after
returns c = record {
  first_stripe = refl;
  second_stripe = refl;
  third_stripe = refl;
  of_pool = refl;
  own_channel = refl;
  waits_for_its_own = refl;
  passes_one_that_waits = refl;
  in_order = refl;
  none_for_the_other = refl;
}
