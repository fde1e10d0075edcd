-- The words of settings are read back.
use Rattle.std.proofs.Common.{◌≡◌, ◌∙◌, ℕ, zero, suc, ◌+◌, ◌<◌, ◌≤◌, ◌^◌, ◌==◌, Bool, true, false, nat_lt, nat_le, List, [], ◌∷◌, ◌++◌, length, Some, None, decimal, refl, ap, ap₂, arith, rules, cond}
use Rattle.std.proofs.Math.Seq.{drop-append-add, take-append_seam}
use Rattle.std.proofs.lemmas.List.{length-append}
use Rattle.std.proofs.lemmas.Fmt.{decimal_is_IsNumeral}
use Rattle.std.specs.Char.{digit_value}
use Rattle.std.specs.Fmt.{digits}
use Rattle.std.specs.List.{position_or_len}
use Rattle.std.specs.Str.Parse.{AllDigits}
use Rattle.nvme_arbiter.specs.Settings.{ArbitrationFields, FitsFields}
use Rattle.nvme_settings.specs.Reading.{Text, burst_in, cut, number_in, weight_in, weight_of_number, weights_in}
use Rattle.nvme_settings.specs.Saying.{WordsReadBack, limit_words, weights_words}
use Rattle.nvme_settings.proofs.Numbers.{lt_true, number_some}

-- ---- the burst

burst_at : (code : ℕ) → code < 8 → burst_in (limit_words (cond (code == 7) None (Some (2 ^ code)))) ≡ Some code
unfolding digits
burst_at zero h = refl
burst_at (suc zero) h = refl
burst_at (suc (suc zero)) h = refl
burst_at (suc (suc (suc zero))) h = refl
burst_at (suc (suc (suc (suc zero)))) h = refl
burst_at (suc (suc (suc (suc (suc zero))))) h = refl
burst_at (suc (suc (suc (suc (suc (suc zero)))))) h = refl
burst_at (suc (suc (suc (suc (suc (suc (suc zero))))))) h = refl
burst_at (suc (suc (suc (suc (suc (suc (suc (suc n)))))))) h = absurd (omega (arith, h))

-- ---- a weight

number_back : (n : ℕ) → n < 2 ^ 32 → number_in 10 (decimal n) ≡ Some n
number_back n few =
    let is = decimal_is_IsNumeral n (omega (arith, few)) in
    number_some 10 (decimal n) is.0 (omega (arith, is.1, few)) ∙ ap (λ m. Some m) is.1

le_true : (a b : ℕ) → a ≤ b → nat_le a b ≡ true
le_true a b h = search (rules, arith)

weight_back : (field : ℕ) → field < 256 → weight_in (decimal (field + 1)) ≡ Some field
weight_back field few =
    ap weight_of_number (number_back (field + 1) (omega (arith, few)))
    ∙ rw (le_true 1 (field + 1) (omega arith), le_true (field + 1) 256 (omega (arith, few))) (ap (λ n. Some n) (omega arith))

-- ---- the parts around a colon

other_than : (x : ℕ) → digit_value x < 10 → (x == 58) ≡ false
other_than x h = go (x == 58) refl
  where
    go : (b : Bool) → (x == 58) ≡ b → b ≡ false
    go false e = refl
    go true e = let is : x ≡ 58 = search (rules, arith) in let bad : digit_value 58 < 10 = rw is at h in absurd (omega (arith, bad))

place : (xs ys : List ℕ) → AllDigits 10 xs → position_or_len (λ b. b == 58) (xs ++ 58 ∷ ys) ≡ length xs
place [] ys h = refl
place (x ∷ xs) ys h = rw (other_than x h.0) (omega (arith, place xs ys h.1))

cut_back : (xs ys : List ℕ) → AllDigits 10 xs → cut 58 (xs ++ 58 ∷ ys) ≡ Some (xs, ys)
cut_back xs ys h =
    let at = place xs ys h in
    let long : length (xs ++ 58 ∷ ys) ≡ length xs + suc (length ys) = length-append xs (58 ∷ ys) in
    let within : nat_lt (length xs) (length (xs ++ 58 ∷ ys)) ≡ true = lt_true _ _ (omega (arith, long)) in
    rw (at, within) (ap₂ (λ (a b : Text). Some (a, b)) (take-append_seam xs (58 ∷ ys)) (drop-append-add xs (58 ∷ ys) 1))

-- ---- settings

weights_back : (s : ArbitrationFields) → FitsFields s
    → weights_in (weights_words s) ≡ Some (record { high = s.high; medium = s.medium; low = s.low })
weights_back s fits =
    let high = decimal_is_IsNumeral (s.high + 1) (omega (arith, fits.high)) in
    let medium = decimal_is_IsNumeral (s.medium + 1) (omega (arith, fits.medium)) in
    rw (
      cut_back (decimal (s.high + 1)) (decimal (s.medium + 1) ++ 58 ∷ decimal (s.low + 1)) high.0.1,
      cut_back (decimal (s.medium + 1)) (decimal (s.low + 1)) medium.0.1,
      weight_back s.high fits.high,
      weight_back s.medium fits.medium,
      weight_back s.low fits.low,
    ) refl

pub words_back : WordsReadBack
words_back s fits = rw (burst_at s.burst_code fits.burst_code, weights_back s fits) refl
