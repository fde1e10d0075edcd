-- Worked examples of the definitions. (profile)
use Rattle.std.specs.Prelude.{◌≡◌, ℕ, List, [], ◌∷◌}
use Rattle.nvme_points.specs.Estimates.{IsInterval, pair_differences, squared_error}
use Rattle.nvme_points.specs.Points.{choices_of, count_of}

-- a key of two values, and one of three, which is faster
abbrev pub two_keys : List ℕ
two_keys = 3 ∷ 2 ∷ []

pub record PointExamples : Type 0 where
  pub six : count_of two_keys ≡ 6
  pub no_key : count_of [] ≡ 1
  pub first : choices_of two_keys 0 ≡ 0 ∷ 0 ∷ []
  pub fastest : choices_of two_keys 2 ≡ 2 ∷ 0 ∷ []
  pub slower : choices_of two_keys 3 ≡ 0 ∷ 1 ∷ []
  pub last : choices_of two_keys 5 ≡ 2 ∷ 1 ∷ []

-- 2, 4 and 9 differ from their mean 5 by 3, 1 and 4: the sum of the squares is 26, and six times that stands here
pub record EstimateExamples : Type 0 where
  pub pairs : pair_differences (2 ∷ 4 ∷ 9 ∷ []) (2 ∷ 4 ∷ 9 ∷ []) ≡ 156
  pub same : pair_differences (7 ∷ 7 ∷ []) (7 ∷ 7 ∷ []) ≡ 0
  pub error : squared_error (2_000 ∷ 4_000 ∷ 9_000 ∷ []) ≡ 4_333_333_333_333
  -- 4.302653 times 2081.665
  pub half : IsInterval (2_000 ∷ 4_000 ∷ 9_000 ∷ []) 8_956
