use Rattle.std.proofs.Common.{refl}
use Rattle.nvme_clock.proofs.laws.published_words.Goals as goal

pub returns : goal.returns
returns c = record {
  xoshiro_first = refl;
  xoshiro_second = refl;
  xoshiro_third = refl;
  splitmix_first = refl;
  splitmix_second = refl;
}
