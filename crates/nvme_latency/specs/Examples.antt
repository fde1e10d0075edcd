-- Worked examples of the definitions. (profile)
use Rattle.std.specs.Prelude.{◌≡◌, ℕ, List, [], ◌∷◌, sum}
use Rattle.nvme_latency.specs.Quantiles.{IsLongest, IsQuantile, rank_of, reached_by}

abbrev pub five : List ℕ
five = 50 ∷ 10 ∷ 40 ∷ 20 ∷ 30 ∷ []

pub record RankExamples : Type 0 where
  pub median_of_five : rank_of 50_000 5 ≡ 3
  pub median_of_six : rank_of 50_000 6 ≡ 3
  pub ninety_ninth_of_five : rank_of 99_000 5 ≡ 5
  pub ninety_ninth_of_hundred : rank_of 99_000 100 ≡ 99
  pub rounded_up : rank_of 99_000 101 ≡ 100
  pub of_thousand : rank_of 99_900 1000 ≡ 999
  pub least_part : rank_of 1 5 ≡ 1
  pub all_parts : rank_of 100_000 5 ≡ 5
  pub reached : reached_by 39 five ≡ 3
  pub reached_itself : reached_by 40 five ≡ 4

pub record QuantileExamples : Type 0 where
  pub median : IsQuantile 50_000 five 30
  pub lower : IsQuantile 50_000 five 20 → ⊥
  pub between : IsQuantile 50_000 five 31 → ⊥
  pub a_fifth : IsQuantile 20_000 five 10
  pub more_than_a_fifth : IsQuantile 20_001 five 20
  pub ninety_fifth : IsQuantile 95_000 five 50
  pub ties : IsQuantile 50_000 (7 ∷ 9 ∷ 7 ∷ []) 7
  pub one_latency : IsQuantile 99_900 (8 ∷ []) 8
  pub longest : IsLongest five 50
  pub not_among : IsLongest five 51 → ⊥
  pub sum_of_five : sum five ≡ 150
