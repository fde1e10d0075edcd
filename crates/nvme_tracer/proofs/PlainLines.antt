-- The bytes of a written line: ASCII, and no newline.
use Rattle.std.proofs.Common.{◌≡◌, ℕ, suc, ◌<◌, ◌^◌, ◌==◌, ◌&&◌, nat_lt, Bool, true, false, not, List, [], ◌∷◌, ◌++◌, length, decimal, refl, sym, ap, ◌∙◌, arith}
use Rattle.std.proofs.lemmas.Bool.{and_parts, and_from, lt-ltb, ne_eqb}
use Rattle.std.proofs.lemmas.Fmt.{decimal_is_IsNumeral}
use Rattle.std.proofs.lemmas.Str.{is_utf8-from_IsUtf8}
use Rattle.std.proofs.lemmas.Str.Parse.{digit_at}
use Rattle.std.specs.Prelude.{get_or}
use Rattle.std.specs.Str.{is_utf8}
use Rattle.json.proofs.Printed.Utf8.{are_ascii, IsUtf8-are_ascii}
use Rattle.nvme_lines.specs.Lines.{lines_of, before_lines}

abbrev pub is_plain_byte : ℕ → Bool
is_plain_byte x = nat_lt x 128 && not (x == 10)

abbrev pub is_plain : List ℕ → Bool
is_plain [] = true
is_plain (x ∷ xs) = is_plain_byte x && is_plain xs

pub plain-append : (xs ys : List ℕ) → is_plain xs ≡ true → is_plain ys ≡ true → is_plain (xs ++ ys) ≡ true
plain-append [] ys p q = q
plain-append (x ∷ xs) ys p q = let a = and_parts (is_plain_byte x) (is_plain xs) p in and_from (is_plain_byte x) (is_plain (xs ++ ys)) a.0 (plain-append xs ys a.1 q)

-- digits are plain
plain_digit : (x : ℕ) → x < 58 → 47 < x → is_plain_byte x ≡ true
plain_digit x below above = rw (lt-ltb x 128 (omega arith), ne_eqb x 10 (λ e. omega arith)) refl

plain_digits : (ds : List ℕ) → ((i : ℕ) → i < length ds → (47 < get_or ds i 0) × (get_or ds i 0 < 58)) → is_plain ds ≡ true
plain_digits [] h = refl
plain_digits (d ∷ ds) h =
    let first = h 0 (omega arith) in
    and_from (is_plain_byte d) (is_plain ds) (plain_digit d first.1 first.0) (plain_digits ds (λ i l. h (suc i) (omega arith)))

pub plain_decimal : (n : ℕ) → n < 2 ^ 64 → is_plain (decimal n) ≡ true
plain_decimal n h = plain_digits (decimal n) (λ i l. let d = digit_at (decimal n) i (decimal_is_IsNumeral n h).0.1 l in (omega arith, omega arith))

plain_ascii : (xs : List ℕ) → is_plain xs ≡ true → are_ascii xs ≡ true
plain_ascii [] p = refl
plain_ascii (x ∷ xs) p =
    let a = and_parts (is_plain_byte x) (is_plain xs) p in
    let b = and_parts (nat_lt x 128) (not (x == 10)) a.0 in
    and_from (nat_lt x 128) (are_ascii xs) b.0 (plain_ascii xs a.1)

pub plain_utf8 : (xs : List ℕ) → is_plain xs ≡ true → is_utf8 xs ≡ true
plain_utf8 xs p = is_utf8-from_IsUtf8 xs (IsUtf8-are_ascii xs (plain_ascii xs p))

no_newline : (b : Bool) → not b ≡ true → b ≡ false
no_newline true h = sym h
no_newline false h = refl

-- plain bytes and a newline are a line
pub plain_line : (xs rest : List ℕ) → is_plain xs ≡ true → lines_of (xs ++ 10 ∷ rest) ≡ xs ∷ lines_of rest
plain_line [] rest p = refl
plain_line (x ∷ xs) rest p =
    let a = and_parts (is_plain_byte x) (is_plain xs) p in
    let b = and_parts (nat_lt x 128) (not (x == 10)) a.0 in
    let other : (x == 10) ≡ false = no_newline (x == 10) b.1 in
    ap (λ t. before_lines t x (lines_of (xs ++ 10 ∷ rest))) other ∙ ap (before_lines false x) (plain_line xs rest a.1)
