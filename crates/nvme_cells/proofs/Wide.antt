-- Where Jain's index has no quotient.
use Rattle.std.proofs.Common.{◌≤◌, ℕ, ◌*◌, ◌^◌, List, [], ◌∷◌, length, arith}
use Rattle.std.proofs.Math.Nat.{mul-le-mul_left}
use Rattle.nvme_cells.specs.Quotients.{squares_of}

-- the square of a sum that doesn't fit
pub square_is_wide : (n : ℕ) → 2 ^ 128 ≤ n → 2 ^ 128 ≤ n * n * 10_000
square_is_wide n wide = let some : 1 ≤ n = omega (arith, wide) in omega (arith, wide, mul-le-mul_left n some)

-- squares that don't fit are those of parts
pub squares_are_wide : (parts : List ℕ) → 2 ^ 128 ≤ squares_of parts → 2 ^ 128 ≤ squares_of parts * length parts
squares_are_wide [] wide = absurd (omega (arith, wide))
squares_are_wide (x ∷ xs) wide =
    let some : 1 ≤ length (x ∷ xs) = omega arith in
    omega (arith, wide, mul-le-mul_left (squares_of (x ∷ xs)) some)
