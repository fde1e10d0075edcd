-- One digit more.
use Rattle.std.proofs.Common.{◌≡◌, ◌∙◌, ℕ, ◌+◌, ◌-◌, ◌*◌, ◌/◌, ◌<◌, ◌^◌, true, false, nat_lt, List, length, drop, get_or, sym, ap, refl, arith, rules}
use Rattle.std.specs.Char.{is_ascii_digit}
use Rattle.std.proofs.lemmas.List.{drop_more}
use Rattle.nvme_clock.specs.Durations.{is_finer, number_from, part_from}

lt_true : (a b : ℕ) → a < b → nat_lt a b ≡ true
lt_true a b h = search (rules, arith)

-- a digit more of a number that fits
pub number_more : (n i c : ℕ) (cs : List ℕ) → i < length cs → c ≡ get_or cs i c → is_ascii_digit c ≡ true → n * 10 + (c - 48) < 2 ^ 64
    → number_from (n * 10 + (c - 48)) (drop (i + 1) cs) ≡ number_from n (drop i cs)
number_more n i c cs l at digit fits =
    sym (ap (λ v. number_from n v) (drop_more cs i c l) ∙ rw (← at, digit, lt_true (n * 10 + (c - 48)) 0x1_0000_0000_0000_0000 fits) refl)

-- a digit more behind the point
pub part_more : (unit sum i c : ℕ) (cs : List ℕ) → i < length cs → c ≡ get_or cs i c → is_ascii_digit c ≡ true
    → is_finer c (unit / 10) ≡ false → (c - 48) * (unit / 10) + sum < 2 ^ 64
    → part_from (unit / 10) ((c - 48) * (unit / 10) + sum) (drop (i + 1) cs) ≡ part_from unit sum (drop i cs)
part_more unit sum i c cs l at digit whole fits =
    sym (ap (λ v. part_from unit sum v) (drop_more cs i c l)
    ∙ rw (← at, digit, whole, lt_true ((c - 48) * (unit / 10) + sum) 0x1_0000_0000_0000_0000 fits) refl)
