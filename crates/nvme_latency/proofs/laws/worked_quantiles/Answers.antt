use Rattle.std.proofs.Common.{◌≡◌, ℕ, zero, suc, ◌<◌, ◌≤◌, List, [], ◌∷◌, get_or, All, refl, arith, lit<, lit≤}
use Rattle.std.proofs.lemmas.List.Elements.{All-cons, All-nil}
use Rattle.nvme_latency.specs.Examples.{five}
use Rattle.nvme_latency.specs.Quantiles.{IsLongest}
use Rattle.nvme_latency.proofs.Ranks.{right_above}
use Rattle.nvme_latency.proofs.laws.worked_quantiles.Goals as goal

-- no latency is 51
none_is : IsLongest five 51 → ⊥
none_is l = go l.among.0 l.among.1 l.among.2
  where
    go : (k : ℕ) → k < 5 → get_or five k 51 ≡ 51 → ⊥
    go zero l e = omega (arith, e)
    go (suc zero) l e = omega (arith, e)
    go (suc (suc zero)) l e = omega (arith, e)
    go (suc (suc (suc zero))) l e = omega (arith, e)
    go (suc (suc (suc (suc zero)))) l e = omega (arith, e)
    go (suc (suc (suc (suc (suc k))))) l e = omega (arith, l)

within : (t : ℕ) (times : List ℕ) → t ≤ 50 → All (λ t. t ≤ 50) times → All (λ t. t ≤ 50) (t ∷ times)
within t times l all = All-cons (λ (t : ℕ). t ≤ 50) t times l all

none : All (λ (t : ℕ). t ≤ 50) []
none = All-nil (λ (t : ℕ). t ≤ 50)

pub returns : goal.returns
returns c = record {
  median = right_above 50_000 29 five (lit≤ tt) (lit< tt);
  lower = λ is. let few : 3 ≤ 2 = is.reaches in absurd (omega (arith, few));
  between = λ is. let more : 3 < 3 = is.shortest 30 (lit< tt) in absurd (omega (arith, more));
  a_fifth = right_above 20_000 9 five (lit≤ tt) (lit< tt);
  more_than_a_fifth = right_above 20_001 19 five (lit≤ tt) (lit< tt);
  ninety_fifth = right_above 95_000 49 five (lit≤ tt) (lit< tt);
  ties = right_above 50_000 6 (7 ∷ 9 ∷ 7 ∷ []) (lit≤ tt) (lit< tt);
  one_latency = right_above 99_900 7 (8 ∷ []) (lit≤ tt) (lit< tt);
  longest = record { of_all = within 50 (10 ∷ 40 ∷ 20 ∷ 30 ∷ []) (lit≤ tt) (within 10 (40 ∷ 20 ∷ 30 ∷ []) (lit≤ tt) (within 40 (20 ∷ 30 ∷ []) (lit≤ tt) (within 20 (30 ∷ []) (lit≤ tt) (within 30 [] (lit≤ tt) none)))); among = (0, lit< tt, refl) };
  not_among = none_is;
  sum_of_five = refl;
}
