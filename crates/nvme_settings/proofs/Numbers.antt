-- Digits, by tests.
use Rattle.std.proofs.Common.{◌≡◌, ◌≢◌, ℕ, ◌<◌, ◌^◌, ◌==◌, ◌&&◌, Bool, true, false, cond, nat_lt, List, [], ◌∷◌, length, drop, slice_index, Some, None, refl, arith, rules}
use Rattle.std.specs.Char.{digit_value}
use Rattle.std.specs.Str.Parse.{AllDigits, IsNumeral, digits_value, without_leading_plus}
use Rattle.nvme_settings.specs.Reading.{are_digits, is_number, number_in}

pub lt_true : (a b : ℕ) → a < b → nat_lt a b ≡ true
lt_true a b h = search (rules, arith)

pub lt_holds : (a b : ℕ) → nat_lt a b ≡ true → a < b
lt_holds a b h = search (rules, arith)

pub digits_pass : (radix : ℕ) (ds : List ℕ) → AllDigits radix ds → are_digits radix ds ≡ true
digits_pass radix [] h = refl
digits_pass radix (c ∷ cs) h = rw (lt_true (digit_value c) radix h.0, digits_pass radix cs h.1) refl

and_left : (a b : Bool) → (a && b) ≡ true → a ≡ true
and_left true b e = refl
and_left false b e = cc

and_right : (a b : Bool) → (a && b) ≡ true → b ≡ true
and_right true b e = e
and_right false b e = cc

pub digits_hold : (radix : ℕ) (ds : List ℕ) → are_digits radix ds ≡ true → AllDigits radix ds
digits_hold radix [] e = tt
digits_hold radix (c ∷ cs) e = (
  lt_holds (digit_value c) radix (and_left (nat_lt (digit_value c) radix) (are_digits radix cs) e),
  digits_hold radix cs (and_right (nat_lt (digit_value c) radix) (are_digits radix cs) e),
)

pub number_some : (radix : ℕ) (ds : List ℕ) → IsNumeral radix ds → digits_value radix ds < 2 ^ 32 → number_in radix ds ≡ Some (digits_value radix ds)
number_some radix ds is few =
    rw (lt_true 0 (length ds) is.0, digits_pass radix ds is.1, lt_true (digits_value radix ds) 0x1_0000_0000 few) refl

pub number_none : (radix : ℕ) (ds : List ℕ) → (IsNumeral radix ds × (digits_value radix ds < 2 ^ 32) → ⊥) → number_in radix ds ≡ None
number_none radix ds none = go (is_number radix ds) refl
  where
    go : (b : Bool) → is_number radix ds ≡ b → cond b (Some (digits_value radix ds)) None ≡ None
    go false e = refl
    go true e =
        let some = lt_holds 0 (length ds) (and_left (nat_lt 0 (length ds)) (are_digits radix ds && nat_lt (digits_value radix ds) 0x1_0000_0000) e) in
        let rest = and_right (nat_lt 0 (length ds)) (are_digits radix ds && nat_lt (digits_value radix ds) 0x1_0000_0000) e in
        let all = digits_hold radix ds (and_left (are_digits radix ds) (nat_lt (digits_value radix ds) 0x1_0000_0000) rest) in
        let few = lt_holds (digits_value radix ds) 0x1_0000_0000 (and_right (are_digits radix ds) (nat_lt (digits_value radix ds) 0x1_0000_0000) rest) in
        absurd (none ((some, all), few))

-- digits that don't begin with a plus
pub no_plus : (bs : List ℕ) → slice_index bs 0 ≢ 43 → without_leading_plus bs ≡ bs
no_plus bs other = go (slice_index bs 0 == 43) refl
  where
    go : (b : Bool) → (slice_index bs 0 == 43) ≡ b → drop (cond b 1 0) bs ≡ bs
    go false e = refl
    go true e = absurd (other (search (rules, arith)))
