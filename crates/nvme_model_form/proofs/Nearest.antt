-- The gap of a rate is rounded to the nearest picosecond.
use Rattle.std.proofs.Common.{◌≡◌, ℕ, ◌+◌, ◌*◌, ◌/◌, ◌%◌, ◌<◌, ◌≤◌, arith}
use Rattle.std.proofs.Math.Nat.{div-add-mod, mul_assoc}
use Rattle.std.proofs.lemmas.Nat.{mod_below}
use Rattle.nvme_model_form.specs.Times.{IsNearest, gap_of_rate}

-- where q times twice the rate and less than that are the whole and the rate
between : (whole rate q left : ℕ) → 2 * rate * q + left ≡ whole + rate → left < 2 * rate → (2 * (rate * q) ≤ whole + rate) × (whole ≤ 2 * (rate * q) + rate)
between whole rate q left e lt =
    let a : 2 * rate * q ≡ 2 * (rate * q) = mul_assoc 2 rate q in
    (omega (arith, a, e), omega (arith, a, e))

pub nearest : (rate : ℕ) → 0 < rate → IsNearest rate (gap_of_rate rate)
nearest rate some =
    let whole = 2000000000000 + rate in
    let p = between 2000000000000 rate (whole / (2 * rate)) (whole % (2 * rate)) (div-add-mod whole (2 * rate)) (mod_below whole (2 * rate) (omega arith)) in
    record { at_most = p.0; at_least = p.1 }
