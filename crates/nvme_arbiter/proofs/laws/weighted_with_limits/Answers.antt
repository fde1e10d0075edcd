use Rattle.std.proofs.Common.{◌≤◌, ◌∷◌, [], refl, arith}
use Rattle.nvme_arbiter.specs.Settings.{settings_of}
use Rattle.nvme_arbiter.specs.Examples.{played, q, two_rounds}
use Rattle.nvme_arbiter.specs.declared.settings.Mechanism.TheVariants.{Weighted}
use Rattle.nvme_arbiter.proofs.ExampleRuns.{is_pick, is_limited_run, limited_by_test, not_limited}
use Rattle.nvme_arbiter.proofs.laws.weighted_with_limits.Goals as goal

pub returns : goal.returns
unfolding is_pick is_limited_run
returns c = record {
  one = refl;
  next = refl;
  rest = refl;
  over = refl;
  lawful = limited_by_test Weighted (settings_of 0x0301_0001) (played [] two_rounds (q 1 1 ∷ q 2 2 ∷ q 1 1 ∷ q 3 1 ∷ [])) refl;
  past_burst = λ h. not_limited Weighted (settings_of 0x0301_0001) [] two_rounds (q 1 3) refl h.1;
  of_none = λ h. (let some : 1 ≤ 0 = h.1.some in omega arith);
  other = λ h. not_limited Weighted (settings_of 0x0301_0001) [] two_rounds (q 2 1) refl h.1;
}
