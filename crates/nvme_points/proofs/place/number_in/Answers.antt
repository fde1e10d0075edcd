use Rattle.std.proofs.Common.{refl, sym, arith}
use Rattle.nvme_points.proofs.Digits.{no_sign, number_none}
use Rattle.nvme_points.proofs.place.number_in.Goals as goal

pub returns-in-Err : goal.returns-in-Err
returns-in-Err c =
    let text = c.args.text.now in
    let (bare, no_minus) = no_sign text (sym c.if-not-are_digits.ensures) in
    let none = rw (bare, no_minus) at c.in-Err.ensures.value.0 in
    rw (number_none 0x8000_0000_0000_0000 text (λ h. none (h.0, omega (arith, h.1)))) refl
