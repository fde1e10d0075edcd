-- Rows of the same commands in another order.
use Rattle.std.proofs.Common.{◌≡◌, ◌∙◌, ℕ, ◌<◌, List, [], ◌∷◌, ◌++◌, Option, Some, None, MatchOption, length, get_or, sym, ap, refl, arith, inl, inr}
use Rattle.std.specs.List.Sorted.{IsPermutation}
use Rattle.std.proofs.lemmas.Bool.{cases_lt}
use Rattle.std.proofs.lemmas.List.{get_or_append_left, get_or_at, get_or_default, length_push}
use Rattle.std.proofs.lemmas.List.Sorted.{IsPermutation-sym, length_permutation}
use Rattle.nvme_latency.proofs.Ranks.{any_order}
use Rattle.nvme_latency.specs.Laws.{SameStatistics}
use Rattle.nvme_numbers.specs.Rows.{IsRow, IsSpread}
use Rattle.nvme_numbers.specs.declared.row.Row.{Row}
use Rattle.nvme_numbers.specs.declared.row.Spread.{Spread}
use Rattle.nvme_numbers.specs.declared.sums.Sums.{Sums}

-- no latency
pub none : (times : List ℕ) → length times ≡ 0 → times ≡ []
none [] e = refl
none (x ∷ xs) e = absurd (omega (arith, e))

-- a row tells the same of commands in another order
spread_any_order : (times others : List ℕ) (sums : Sums) → IsPermutation times others → (s : Spread) → IsSpread others sums s → IsSpread times sums s
spread_any_order times others sums same s is =
    let size : length times ≡ length others = sym (length_permutation times others same) in
    let stay : SameStatistics others times = any_order others times (IsPermutation-sym times others same) in
    record {
      mean = rw (stay.sum_is, size) is.mean;
      p50 = stay.quantiles 50_000 s.p50 is.p50;
      p95 = stay.quantiles 95_000 s.p95 is.p95;
      p99 = stay.quantiles 99_000 s.p99 is.p99;
      p999 = stay.quantiles 99_900 s.p999 is.p999;
      longest = stay.longest s.longest is.longest;
      host = rw size is.host;
      arbitration = rw size is.arbitration;
      device = rw size is.device;
      service = rw size is.service;
      above_p50 = rw size is.above_p50;
      above_p95 = rw size is.above_p95;
      above_p99 = rw size is.above_p99;
      above_p999 = rw size is.above_p999;
    }

spreads_any_order : (times others : List ℕ) (sums : Sums) → IsPermutation times others → (s : Option Spread)
    → MatchOption s (others ≡ []) (IsSpread others sums) → MatchOption s (times ≡ []) (IsSpread times sums)
spreads_any_order times others sums same None is =
    none times (sym (length_permutation times others same) ∙ ap (λ (v : List ℕ). length v) is)
spreads_any_order times others sums same (Some s) is = spread_any_order times others sums same s is

pub row_any_order : (span whole : ℕ) (times others : List ℕ) (sums : Sums) (row : Row) → IsPermutation times others
    → IsRow span whole others sums row → IsRow span whole times sums row
row_any_order span whole times others sums row same is =
    let size : length times ≡ length others = sym (length_permutation times others same) in
    record {
      commands = rw size is.commands;
      share = rw size is.share;
      iops = rw size is.iops;
      bytes = is.bytes;
      spread = spreads_any_order times others sums same row.spread is.spread;
    }

-- two lists that grow by one each, whose elements at a place are related
pub paired_more : {A B : Type 0} (R : A → B → Type 0) (xs : List A) (ys : List B) (a : A) (b : B) → length ys ≡ length xs
    → ((k : ℕ) (x : A) (y : B) → k < length ys → R (get_or xs k x) (get_or ys k y)) → R a b
    → (k : ℕ) (x : A) (y : B) → k < length (ys ++ b ∷ []) → R (get_or (xs ++ a ∷ []) k x) (get_or (ys ++ b ∷ []) k y)
paired_more R xs ys a b same each here k x y l = elim (cases_lt k (length ys)) [
  | inl before ↦
      let first : get_or (xs ++ a ∷ []) k x ≡ get_or xs k x = get_or_append_left xs (a ∷ []) x k (omega (arith, before, same)) in
      let second : get_or (ys ++ b ∷ []) k y ≡ get_or ys k y = get_or_append_left ys (b ∷ []) y k before in
      rw (first, second) (each k x y before)
  | inr after ↦
      let at : length ys ≡ k = omega (arith, after, l, length_push ys b) in
      let first : get_or (xs ++ a ∷ []) k x ≡ a = get_or_at xs a [] x k (sym same ∙ at) in
      let second : get_or (ys ++ b ∷ []) k y ≡ b = get_or_at ys b [] y k at in
      rw (first, second) here
]

-- one that grows by one, and whose elements are related to those of the other at their places
pub placed_more : {A B : Type 0} (R : A → B → Type 0) (i : ℕ) (xs : List A) (ys : List B) (a : A) (b : B) → length ys ≡ i → i < length xs → a ≡ get_or xs i a → R a b
    → ((k : ℕ) (x : A) (y : B) → k < length ys → R (get_or xs k x) (get_or ys k y))
    → (k : ℕ) (x : A) (y : B) → k < length (ys ++ b ∷ []) → R (get_or xs k x) (get_or (ys ++ b ∷ []) k y)
placed_more R i xs ys a b size there at here each k x y l = elim (cases_lt k (length ys)) [
  | inl before ↦
      let same : get_or (ys ++ b ∷ []) k y ≡ get_or ys k y = get_or_append_left ys (b ∷ []) y k before in
      rw same (each k x y before)
  | inr after ↦
      let last : length ys ≡ k = omega (arith, after, l, length_push ys b) in
      let place : i ≡ k = omega (arith, last, size) in
      let same : get_or (ys ++ b ∷ []) k y ≡ b = get_or_at ys b [] y k last in
      let other : get_or xs k x ≡ a = rw (← place) (get_or_default xs i x a there ∙ sym at) in
      rw (same, other) here
]
