-- Sums over more regions, of which the further ones have nothing.
use Rattle.std.proofs.Common.{◌≡◌, ℕ, zero, suc, ◌≤◌, ◌&&◌, not, filter, length, sym, ap, arith, inl, inr, sum_by}
use Rattle.std.proofs.lemmas.List.Sums.{sum_by_push}
use Rattle.std.proofs.lemmas.Bool.{cases_lt}
use Rattle.nvme_log.specs.Rules.{Past, upto}
use Rattle.nvme_log.specs.Places.{places}
use Rattle.nvme_log.specs.Completions.{is_posted, takes_place}
use Rattle.nvme_ctrl_log.specs.Regions.{over_regions}

-- a sum over more regions, of which the further ones have nothing
pub sum_by-further : (f : ℕ → ℕ) (m n : ℕ) → m ≤ n → ((r : ℕ) → m ≤ r → f r ≡ 0) → sum_by f (upto n) ≡ sum_by f (upto m)
sum_by-further f m zero le none = let same : m ≡ 0 = omega arith in ap (λ (x : ℕ). sum_by f (upto x)) (sym same)
sum_by-further f m (suc n) le none = elim (cases_lt m (suc n)) [
  | inl below ↦ omega (arith, sum_by_push f (upto n) n, sum_by-further f m n (omega arith) none, none n (omega arith))
  | inr from ↦ let same : m ≡ suc n = omega arith in ap (λ (x : ℕ). sum_by f (upto x)) (sym same)
]

-- the same of sums over completion regions
pub over_further : (f : ℕ → ℕ) (m n : ℕ) → m ≤ n → ((r : ℕ) → m ≤ r → f r ≡ 0) → over_regions f n ≡ over_regions f m
unfolding over_regions
over_further f m zero le none = let same : m ≡ 0 = omega arith in ap (over_regions f) (sym same)
over_further f m (suc n) le none = elim (cases_lt m (suc n)) [
  | inl below ↦ omega (arith, over_further f m n (omega arith) none, none n (omega arith))
  | inr from ↦ let same : m ≡ suc n = omega arith in ap (over_regions f) (sym same)
]

-- how many places of a region that were picked, or that an Abort command aborted, have no completion posted
abbrev pub outstanding_in : Past → ℕ → ℕ
outstanding_in past r = length (filter (λ (i : ℕ). takes_place past r i && not (is_posted past r i)) (places past r))
