-- Means over seeds, and the intervals around them. (profile)
use Rattle.std.specs.Prelude.{◌≡◌, ◌≢◌, ◌≤◌, ◌<◌, ◌⊎◌, IfNone, IfSome, None, ℕ, ◌+◌, ◌-◌, ◌*◌, ◌/◌, List, get_or, length, min, sum}
use Rattle.std.specs.Int.{abs_diff}
use Rattle.std.specs.List.{sum_by}
use Rattle.nvme_points.specs.declared.estimates.Estimate.{Estimate}
use Rattle.nvme_points.specs.declared.estimates.TheConstants.{QUANTILES}

-- a mean, rounded down
abbrev pub IsMean : List ℕ → ℕ → Type 0
IsMean values mean = mean ≡ sum values / length values

-- the squared differences between a value and values
unfoldable pub differences_from : ℕ → List ℕ → ℕ
differences_from value values = sum_by (λ other. abs_diff value other * abs_diff value other) values

-- those between values and others. Of the same ones they are twice their number times the sum of the squares of what each
-- differs from their mean
abbrev pub pair_differences : List ℕ → List ℕ → ℕ
pair_differences values others = sum_by (λ value. differences_from value others) values

-- the square of the standard error of their mean, in millionths of a unit: the variance divided by the number of values
abbrev pub squared_error : List ℕ → ℕ
squared_error values = (pair_differences values values * 1_000_000) / (length values * length values * (length values - 1) * 2)

-- the standard error in thousandths of a unit, rounded down: the whole root of the square
pub record IsStandardError (values : List ℕ) (error : ℕ) : Type 0 where
  pub least : error * error ≤ squared_error values
  pub most : squared_error values < (error + 1) * (error + 1)

-- the quantile for so many values, in millionths: one degree of freedom less, and of more than 100 that of 100
abbrev pub IsQuantile : ℕ → ℕ → Type 0
IsQuantile count quantile = quantile ≡ get_or QUANTILES (min (count - 2) 99) 0

-- half the width of the interval of 95 %, rounded down
pub record IsInterval (values : List ℕ) (half : ℕ) : Type 0 where
  pub quantile : ℕ
  pub quantile_is : IsQuantile (length values) quantile
  pub error : ℕ
  pub error_is : IsStandardError values error
  pub half_is : half ≡ (quantile * error) / 1_000_000_000

-- ---- what there isn't
-- a number of 128 bits can't be this
abbrev pub IsTooLarge : ℕ → Type 0
IsTooLarge n = 0x1_0000_0000_0000_0000_0000_0000_0000_0000 ≤ n

-- values have no mean: there are none, or their sum is too large
abbrev pub LacksMean : List ℕ → Type 0
LacksMean values = (length values ≡ 0) ⊎ IsTooLarge (sum values)

-- a number by which a standard error is reckoned is too large
abbrev pub IsTooSpread : List ℕ → Type 0
IsTooSpread values =
    IsTooLarge (pair_differences values values) ⊎ (IsTooLarge (pair_differences values values * 1_000_000) ⊎ IsTooLarge (length values * length values * (length values - 1) * 2))

-- the product by which half the width of their interval is reckoned is too large
pub record AreTooWide (values : List ℕ) : Type 0 where
  pub quantile : ℕ
  pub quantile_is : IsQuantile (length values) quantile
  pub error : ℕ
  pub error_is : IsStandardError values error
  pub too_large : IsTooLarge (quantile * error)

-- values have no interval
abbrev pub LacksInterval : List ℕ → Type 0
LacksInterval values = (length values < 2) ⊎ (IsTooSpread values ⊎ AreTooWide values)

-- an estimate of the values that seeds gave: none where a seed gave none, and else what the values have
pub record IsEstimate (values : List ℕ) (seeds : ℕ) (estimate : Estimate) : Type 0 where
  pub missing : length values ≢ seeds → (estimate.mean ≡ None) × (estimate.half ≡ None)
  pub mean : length values ≡ seeds → IfSome estimate.mean (IsMean values)
  pub no_mean : length values ≡ seeds → IfNone estimate.mean (LacksMean values)
  pub half : length values ≡ seeds → IfSome estimate.half (IsInterval values)
  pub no_half : length values ≡ seeds → IfNone estimate.half (LacksInterval values)
