-- Numbers in digits, by tests.
use Rattle.std.proofs.Common.{◌≡◌, ℕ, ◌<◌, ◌==◌, ◌&&◌, Bool, true, false, cond, nat_lt, List, [], ◌∷◌, length, Some, None, refl, arith, rules}
use Rattle.std.specs.Char.{digit_value, is_ascii_digit}
use Rattle.std.specs.List.{list_all}
use Rattle.std.specs.Str.Parse.{AllDigits, IsNumeral, digits_value, starts_with_minus, without_leading_sign}
use Rattle.std.proofs.lemmas.Bool.{and_parts}
use Rattle.nvme_points.specs.Documents.{number_below}

lt_true : (a b : ℕ) → a < b → nat_lt a b ≡ true
lt_true a b h = search (rules, arith)

lt_holds : (a b : ℕ) → nat_lt a b ≡ true → a < b
lt_holds a b h = search (rules, arith)

digit_passes : (c : ℕ) → digit_value c < 10 → is_ascii_digit c ≡ true
digit_passes c h = search (rules, arith)

digit_holds : (c : ℕ) → is_ascii_digit c ≡ true → digit_value c < 10
digit_holds c h = search (rules, arith)

digits_pass : (ds : List ℕ) → AllDigits 10 ds → list_all is_ascii_digit ds ≡ true
digits_pass [] h = refl
digits_pass (c ∷ cs) h = rw (digit_passes c h.0, digits_pass cs h.1) refl

pub digits_hold : (ds : List ℕ) → list_all is_ascii_digit ds ≡ true → AllDigits 10 ds
digits_hold [] e = tt
digits_hold (c ∷ cs) e =
    let (here, more) = and_parts (is_ascii_digit c) (list_all is_ascii_digit cs) e in
    (digit_holds c here, digits_hold cs more)

pub number_some : (limit : ℕ) (ds : List ℕ) → IsNumeral 10 ds → digits_value 10 ds < limit → number_below limit ds ≡ Some (digits_value 10 ds)
number_some limit ds is few =
    rw (lt_true 0 (length ds) is.0, digits_pass ds is.1, lt_true (digits_value 10 ds) limit few) refl

pub number_none : (limit : ℕ) (ds : List ℕ) → (IsNumeral 10 ds × (digits_value 10 ds < limit) → ⊥) → number_below limit ds ≡ None
number_none limit ds none = go (nat_lt 0 (length ds) && (list_all is_ascii_digit ds && nat_lt (digits_value 10 ds) limit)) refl
  where
    go : (b : Bool) → (nat_lt 0 (length ds) && (list_all is_ascii_digit ds && nat_lt (digits_value 10 ds) limit)) ≡ b → cond b (Some (digits_value 10 ds)) None ≡ None
    go false e = refl
    go true e =
        let (some, rest) = and_parts (nat_lt 0 (length ds)) (list_all is_ascii_digit ds && nat_lt (digits_value 10 ds) limit) e in
        let (all, few) = and_parts (list_all is_ascii_digit ds) (nat_lt (digits_value 10 ds) limit) rest in
        absurd (none ((lt_holds 0 (length ds) some, digits_hold ds all), lt_holds (digits_value 10 ds) limit few))

-- digits begin with no sign
pub no_sign : (ds : List ℕ) → list_all is_ascii_digit ds ≡ true → (without_leading_sign ds ≡ ds) × (starts_with_minus ds ≡ false)
no_sign [] e = (refl, refl)
no_sign (c ∷ cs) e =
    let digit = digit_holds c (and_parts (is_ascii_digit c) (list_all is_ascii_digit cs) e).0 in
    let minus : (c == 45) ≡ false = search (rules, arith) in
    let plus : (c == 43) ≡ false = search (rules, arith) in
    (rw (minus, plus) refl, minus)
