-- Each place has one fate.
use Rattle.std.proofs.Common.{◌≡◌, ℕ, zero, suc, ◌+◌, Bool, true, false, nat_lt, List, [], ◌∷◌, length, refl, ◌∙◌, arith, length-append, if◌then◌else◌}
use Rattle.nvme_log.specs.Rules.{Past, upto}
use Rattle.nvme_log.specs.Places.{fetched, places, WasAborted, WasPicked, Waits, fate_of, is_waiting, is_picked, is_aborted, unaborted_below, picked}
use Rattle.nvme_log.specs.Laws.{count_of, OneFateEach}

pub length-upto : (n : ℕ) → length (upto n) ≡ n
length-upto zero = refl
length-upto (suc n) = omega (arith, length-append (upto n) (n ∷ []), length-upto n)

-- 1 where a test passes
abbrev one_if : Bool → ℕ
one_if b = if b then 1 else 0

count_of-cons : (test : ℕ → Bool) (i : ℕ) (is : List ℕ) (b : Bool) → test i ≡ b → count_of test (i ∷ is) ≡ one_if b + count_of test is
count_of-cons test i is true e = rw e (omega arith)
count_of-cons test i is false e = rw e (omega arith)

-- of a place whether it was aborted, and if not whether it was picked, exactly one of the three tests passes
one_fate : (aborted picked_first : Bool) →
    one_if aborted + one_if (is_picked (if aborted then WasAborted else (if picked_first then WasPicked else Waits)))
    + one_if (is_waiting (if aborted then WasAborted else (if picked_first then WasPicked else Waits))) ≡ 1
one_fate true p = refl
one_fate false true = refl
one_fate false false = refl

fates_among : (past : Past) (r : ℕ) (is : List ℕ) →
    count_of (λ i. is_aborted past r i) is + count_of (λ i. is_picked (fate_of past r i)) is
    + count_of (λ i. is_waiting (fate_of past r i)) is ≡ length is
fates_among past r [] = refl
fates_among past r (i ∷ is) =
    let aborted = count_of-cons (λ k. is_aborted past r k) i is (is_aborted past r i) refl in
    let taken = count_of-cons (λ k. is_picked (fate_of past r k)) i is (is_picked (fate_of past r i)) refl in
    let waits = count_of-cons (λ k. is_waiting (fate_of past r k)) i is (is_waiting (fate_of past r i)) refl in
    omega (arith, aborted, taken, waits, one_fate (is_aborted past r i) (nat_lt (unaborted_below past r i) (picked past r)), fates_among past r is)

pub one_fate_each : OneFateEach
one_fate_each past r = fates_among past r (places past r) ∙ length-upto (length (fetched past r))
