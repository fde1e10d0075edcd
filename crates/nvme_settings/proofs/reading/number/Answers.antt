use Rattle.std.proofs.Common.{rules, ◌≡◌, ◌∙◌, ◌<◌, ◌^◌, Some, sym, ap, arith}
use Rattle.std.specs.Str.Parse.{IsNumeral, digits_value}
use Rattle.nvme_settings.proofs.Numbers.{no_plus, number_none, number_some}
use Rattle.nvme_settings.proofs.reading.number.Goals as goal

pub returns-in-Ok : goal.returns-in-Ok
returns-in-Ok c =
    let ds = c.args.digits.now in
    let bare = no_plus ds (search (rules, arith)) in
    let is : (IsNumeral c.args.radix ds × (digits_value c.args.radix ds < 2 ^ 32)) × (c.in-Ok.number ≡ digits_value c.args.radix ds) = rw bare at c.in-Ok.ensures.value in
    sym (number_some c.args.radix ds is.0.0 is.0.1 ∙ ap (λ n. Some n) (sym is.1))

pub returns-in-Err : goal.returns-in-Err
returns-in-Err c =
    let ds = c.args.digits.now in
    let bare = no_plus ds (search (rules, arith)) in
    let not : IsNumeral c.args.radix ds × (digits_value c.args.radix ds < 2 ^ 32) → ⊥ = rw bare at c.in-Err.ensures.value in
    sym (number_none c.args.radix ds not)
