-- What holds of order statistics. (profile)
use Rattle.std.specs.Prelude.{◌≡◌, ◌≤◌, ℕ, List, IsPermutation, length, sum}
use Rattle.nvme_latency.specs.declared.ranked.TheConstants.{PARTS}
use Rattle.nvme_latency.specs.Quantiles.{IsLongest, IsQuantile}

abbrev pub QuantilesRise : ℕ → ℕ → List ℕ → Type 0
QuantilesRise p q times = (v w : ℕ) → p ≤ q → IsQuantile p times v → IsQuantile q times w → v ≤ w

abbrev pub LongestIsLast : List ℕ → Type 0
LongestIsLast times = (m : ℕ) → IsLongest times m → IsQuantile PARTS times m

pub record SameStatistics (times others : List ℕ) : Type 0 where
  pub count : length others ≡ length times
  pub sum_is : sum others ≡ sum times
  pub longest : (m : ℕ) → IsLongest times m → IsLongest others m
  pub quantiles : (parts q : ℕ) → IsQuantile parts times q → IsQuantile parts others q

abbrev pub OrderIsNoMatter : List ℕ → List ℕ → Type 0
OrderIsNoMatter times others = IsPermutation times others → SameStatistics times others
