-- Accepted words leave each remainder equally often.
use Rattle.std.proofs.Common.{◌≡◌, ℕ, ◌+◌, ◌-◌, ◌*◌, ◌/◌, ◌%◌, ◌<◌, arith}
use Rattle.std.proofs.Math.Nat.{div-lt_iff_lt-mul}
use Rattle.std.proofs.lemmas.Nat.{div-add-mod', div-mul-add, mod-mul-add}
use Rattle.nvme_clock.specs.Draws.{IsFair}

whole : (m n : ℕ) → m - m % n ≡ m / n * n
whole m n = let e : m / n * n + m % n ≡ m = div-add-mod' m n in omega arith

reached : (m n r i : ℕ) → r < n → i < m / n → i * n + r < m - m % n
reached m n r i l h =
    let pos : 0 < n = omega (arith, l) in
    let quotient : (i * n + r) / n < m / n = rw (div-mul-add i n r l) h in
    rw (whole m n) ((div-lt_iff_lt-mul {k = n} {x = i * n + r} {y = m / n} pos).0 quotient)

no_others : (m n w : ℕ) → 0 < n → w < m - m % n → w / n < m / n
no_others m n w pos l = let below : w < m / n * n = rw (whole m n) at l in (div-lt_iff_lt-mul {k = n} {x = w} {y = m / n} pos).1 below

pub fair : (n : ℕ) → 0 < n → IsFair n
fair n pos = record {
  reached = λ r i l h. (reached 0xffff_ffff_ffff_ffff n r i l h, mod-mul-add i n r l);
  no_others = λ w l. (no_others 0xffff_ffff_ffff_ffff n w pos l, div-add-mod' w n);
}
