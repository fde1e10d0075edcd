-- Quantiles of lists that are sorted, and of any.
use Rattle.std.proofs.Common.{◌≡◌, ◌∙◌, ℕ, ◌+◌, ◌-◌, ◌*◌, ◌/◌, ◌<◌, ◌≤◌, true, false, nat_le, cond, List, length, get_or, take, drop, count_by, sum, inl, inr, sym, arith}
use Rattle.std.specs.List.Sorted.{IsNonDecreasing}
use Rattle.std.proofs.Math.Nat.{div-lt_iff_lt-mul, mul-le-mul_left, mul-le-mul_right}
use Rattle.std.proofs.lemmas.Bool.{cases_lt}
use Rattle.std.proofs.lemmas.Bool.Decides.{nat_tests}
use Rattle.std.proofs.lemmas.List.{get_or-drop, get_or-take, get_or_default, length-drop, length-take-le}
use Rattle.std.proofs.lemmas.List.Sorted.{All-permutation, Contains-permutation, length_permutation, sum_by-IsPermutation}
use Rattle.std.proofs.lemmas.List.Sums.{count_by-le-length, sum_by-le, sum_by-le-sum_by, sum_by-take-drop}
use Rattle.std.proofs.lemmas.Nat.{div-mul-add}
use Rattle.nvme_latency.specs.Laws.{LongestIsLast, OrderIsNoMatter, QuantilesRise}
use Rattle.nvme_latency.specs.Quantiles.{IsLongest, IsQuantile, rank_of, reached_by}
use Rattle.nvme_latency.proofs.Counts.{all_pass, none_pass, one_fails}

-- a rank of all parts is all, and one of more parts is no lower
whole_rank : (n : ℕ) → rank_of 100_000 n ≡ n
whole_rank n = let e : 100_000 * n + 99_999 ≡ n * 100_000 + 99_999 = omega arith in rw e (div-mul-add n 100_000 99_999 (omega arith))

ranks_rise : (p q n : ℕ) → p ≤ q → rank_of p n ≤ rank_of q n
ranks_rise p q n l = let more : p * n ≤ q * n = mul-le-mul_right n l in omega (arith, more)

-- the time at a rank of a sorted list is the quantile
at_rank : (parts i q : ℕ) (times : List ℕ) → IsNonDecreasing times → i < length times → i + 1 ≡ rank_of parts (length times) → q ≡ get_or times i 0
    → IsQuantile parts times q
at_rank parts i q times sorted l is at = record { reaches = reaches; shortest = shortest }
  where
    reaches : rank_of parts (length times) ≤ reached_by q times
    reaches =
        let test = λ (t : ℕ). nat_le t q in
        let split : count_by test (take (i + 1) times) + count_by test (drop (i + 1) times) ≡ count_by test times =
        sum_by-take-drop (λ (t : ℕ). cond (nat_le t q) 1 0) times (i + 1) in
        let size : length (take (i + 1) times) ≡ i + 1 = length-take-le (i + 1) times (omega (arith, l)) in
        let first : count_by test (take (i + 1) times) ≡ length (take (i + 1) times) = all_pass test (take (i + 1) times) (λ k below.
        let here : k < i + 1 = omega (arith, below, size) in
        let up : get_or times k 0 ≤ get_or times i 0 = sorted k i 0 (omega (arith, here)) l in
        rw (get_or-take (i + 1) times k 0 here) (grind (arith, nat_tests))) in
        omega (arith, split, first, size, is)

    shortest : (t : ℕ) → t < q → reached_by t times < rank_of parts (length times)
    shortest t lower =
        let test = λ (x : ℕ). nat_le x t in
        let split : count_by test (take i times) + count_by test (drop i times) ≡ count_by test times =
        sum_by-take-drop (λ (x : ℕ). cond (nat_le x t) 1 0) times i in
        let size : length (take i times) ≡ i = length-take-le i times (omega (arith, l)) in
        let few : count_by test (take i times) ≤ length (take i times) = count_by-le-length test (take i times) in
        let none : count_by test (drop i times) ≡ 0 = none_pass test (drop i times) (λ k below.
        let here : i + k < length times = omega (arith, below, length-drop i times) in
        let up : get_or times i 0 ≤ get_or times (i + k) 0 = sorted i (i + k) 0 (omega arith) here in
        rw (get_or-drop i times k 0) (grind (arith, nat_tests))) in
        omega (arith, split, size, few, none, is)

-- as it is read
pub at_read : (parts rank q : ℕ) (times : List ℕ) → IsNonDecreasing times → 0 < rank → rank ≤ length times → rank ≡ rank_of parts (length times)
    → q ≡ get_or times (rank - 1) q → IsQuantile parts times q
at_read parts rank q times sorted some within is at =
    let there : rank - 1 < length times = omega (arith, some, within) in
    at_rank parts (rank - 1) q times sorted there (omega (arith, some, is)) (at ∙ get_or_default times (rank - 1) q 0 there)

-- the last time of a sorted list is the longest
pub last_is_longest : (count m : ℕ) (times : List ℕ) → IsNonDecreasing times → 0 < length times → count ≡ length times → m ≡ get_or times (count - 1) m
    → IsLongest times m
last_is_longest count m times sorted some is at =
    let there : count - 1 < length times = omega (arith, some, is) in
    record {
      of_all = λ k d l.
          let up : get_or times k d ≤ get_or times (count - 1) d = sorted k (count - 1) d (omega (arith, l, is)) there in
          let same : get_or times (count - 1) d ≡ get_or times (count - 1) m = get_or_default times (count - 1) d m there in
          omega (arith, up, same, at);
      among = (count - 1, there, sym at);
    }

pub mean_below : (sum count longest : ℕ) → 0 < count → sum ≤ count * longest → longest < 0x1_0000_0000_0000_0000 → sum / count < 0x1_0000_0000_0000_0000
mean_below sum count longest some most fits =
    let more : count * longest ≤ count * 0xffff_ffff_ffff_ffff = mul-le-mul_left count (omega (arith, fits)) in
    (div-lt_iff_lt-mul {k = count} {x = sum} {y = 0x1_0000_0000_0000_0000} some).1 (omega (arith, most, more, some))

-- no sum is above as many of the longest
pub sum_within : (m : ℕ) (times : List ℕ) → IsLongest times m → (0 < length times) × (sum times ≤ length times * m)
sum_within m times longest = (omega (arith, longest.among.1), sum_by-le (λ (t : ℕ). t) m times longest.of_all)

pub rise : (p q : ℕ) (times : List ℕ) → QuantilesRise p q times
rise p q times v w l a b = elim (cases_lt w v) [
  | inl lower ↦
      let low = a.shortest w lower in
      let ranks = ranks_rise p q (length times) l in
      absurd (omega (arith, low, ranks, b.reaches))
  | inr up ↦ up
]

pub last : (times : List ℕ) → LongestIsLast times
last times m longest = record {
  reaches =
      let all : reached_by m times ≡ length times = all_pass (λ (t : ℕ). nat_le t m) times
      (λ k l. let up : get_or times k 0 ≤ m = longest.of_all k 0 l in grind (arith, nat_tests)) in
      omega (arith, whole_rank (length times), all);
  shortest = λ t lower.
      let k = longest.among.0 in
      let same : get_or times k m ≡ get_or times k 0 = get_or_default times k m 0 longest.among.1 in
      let at : get_or times k 0 ≡ m = omega (arith, same, longest.among.2) in
      let above : nat_le (get_or times k 0) t ≡ false = grind (arith, nat_tests) in
      let few : reached_by t times < length times = one_fails (λ (x : ℕ). nat_le x t) times k longest.among.1 above in
      omega (arith, whole_rank (length times), few);
}

pub any_order : (times others : List ℕ) → OrderIsNoMatter times others
any_order times others same =
    let size : length others ≡ length times = length_permutation times others same in
    let reached = λ (t : ℕ). sum_by-IsPermutation (λ (x : ℕ). cond (nat_le x t) 1 0) times others same in
    record {
      count = size;
      sum_is = sum_by-IsPermutation (λ (x : ℕ). x) times others same;
      longest = λ m l. record { of_all = All-permutation (λ (t : ℕ). t ≤ m) times others same l.of_all; among = Contains-permutation times others m same l.among };
      quantiles = λ parts q is. record {
        reaches = rw (size, reached q) is.reaches;
        shortest = λ t lower. rw (size, reached t) (is.shortest t lower);
      };
    }

-- more is reached by a longer time, so the time right below a quantile tells that it is the shortest
reached_more : (t u : ℕ) (times : List ℕ) → t ≤ u → reached_by t times ≤ reached_by u times
reached_more t u times up =
    sum_by-le-sum_by (λ (x : ℕ). cond (nat_le x t) 1 0) (λ (x : ℕ). cond (nat_le x u) 1 0) times (λ x. elim (cases_lt t x) [
      | inl above ↦ let no : nat_le x t ≡ false = grind (arith, nat_tests) in rw no (omega arith)
      | inr within ↦
          let yes : nat_le x t ≡ true = grind (arith, nat_tests) in
          let also : nat_le x u ≡ true = grind (arith, nat_tests) in
          rw (yes, also) (omega arith)
    ])

pub right_above : (parts q : ℕ) (times : List ℕ) → rank_of parts (length times) ≤ reached_by (q + 1) times → reached_by q times < rank_of parts (length times)
    → IsQuantile parts times (q + 1)
right_above parts q times reaches short = record {
  reaches = reaches;
  shortest = λ t lower. let more : reached_by t times ≤ reached_by q times = reached_more t q times (omega (arith, lower)) in omega (arith, more, short);
}
