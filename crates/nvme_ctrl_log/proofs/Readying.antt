-- Served places without a post.
use Rattle.std.proofs.Common.{◌≡◌, ℕ, ◌==◌, ◌&&◌, nat_lt, Bool, true, false, not, [], length, sym, ap, ◌∙◌, arith}
use Rattle.std.specs.Prelude.{sum_by, filter}
use Rattle.std.proofs.lemmas.List.{nil_from_length}
use Rattle.nvme_log.specs.Rules.{Past}
use Rattle.nvme_log.specs.Places.{fetched, places, fate_of, is_waiting, is_served, one_if}
use Rattle.nvme_log.specs.Completions.{is_posted, unposted_of}
use Rattle.nvme_log.proofs.Waiting.{times-upto}

-- a served place with no post counts among the unposted ones of its region
pub unposted-counts : (past : Past) (r i : ℕ) → is_served past r i ≡ true → is_posted past r i ≡ false → unposted_of past r ≡ 0 → ⊥
unposted-counts past r i served fresh none =
    let test = λ (j : ℕ). not (is_waiting (fate_of past r j)) && not (is_posted past r j) in
    let empty : filter test (places past r) ≡ [] = nil_from_length (filter test (places past r)) none in
    let times = times-upto test i (length (fetched past r)) in
    let counted : 0 ≡ one_if (nat_lt i (length (fetched past r)) && test i) = sym (ap (sum_by (λ (j : ℕ). one_if (j == i))) empty) ∙ times in
    counts (nat_lt i (length (fetched past r))) (is_waiting (fate_of past r i)) (is_posted past r i) served fresh counted where
      counts : (a b c : Bool) → (a && not b) ≡ true → c ≡ false → 0 ≡ one_if (a && (not b && not c)) → ⊥
      counts true false false e f g = omega arith
      counts true false true e f g = cc
      counts true true c e f g = cc
      counts false b c e f g = cc
