-- Whole multiples of a command's blocks that fit into a namespace.
use Rattle.std.proofs.Common.{◌≡◌, ℕ, zero, suc, ◌+◌, ◌-◌, ◌*◌, ◌/◌, ◌%◌, ◌<◌, ◌≤◌, Bool, true, false, nat_lt, ap, refl, arith}
use Rattle.std.proofs.Math.Nat.{mod-eq_of_lt, suc-mod}
use Rattle.std.proofs.lemmas.Bool.Decides.{nat_tests}
use Rattle.std.proofs.lemmas.Nat.{div-add-mod', mod-mul-add, mod_below}
use Rattle.nvme_load.specs.Places.{place_behind, sequential_place}

-- a multiple below the last
fits : (size blocks n : ℕ) → n < size / blocks → n * blocks + blocks ≤ size
fits size blocks n l =
    let is : size / blocks * blocks + size % blocks ≡ size = div-add-mod' size blocks in
    let more : n + 1 + (size / blocks - (n + 1)) ≡ size / blocks = omega (arith, l) in
    let all : (n + 1 + (size / blocks - (n + 1))) * blocks ≡ size / blocks * blocks = ap (λ (k : ℕ). k * blocks) more in
    let parts : (n + 1 + (size / blocks - (n + 1))) * blocks ≡ n * blocks + blocks + (size / blocks - (n + 1)) * blocks = omega arith in
    omega (arith, is, all, parts)

some : (size blocks : ℕ) → 0 < blocks → blocks ≤ size → 0 < size / blocks
some size blocks pos fit = go (size / blocks) (size % blocks) (div-add-mod' size blocks) (mod_below size blocks pos)
  where
    go : (q r : ℕ) → q * blocks + r ≡ size → r < blocks → 0 < q
    go zero r is below = absurd (omega (arith, is, below, fit))
    go (suc q) r is below = omega arith

self : (m : ℕ) → 0 < m → m % m ≡ 0
self m pos = let e : 1 * m + 0 ≡ m = omega arith in let is : (1 * m + 0) % m ≡ 0 = mod-mul-add 1 m 0 pos in rw e at is

-- the multiple behind another, or the first one
next : (size blocks r : ℕ) → 0 < blocks → r < size / blocks
    → place_behind size blocks (r * blocks + blocks) ≡ suc r % (size / blocks) * blocks
next size blocks r pos l = go (nat_lt (suc r) (size / blocks)) refl
  where
    same : suc r * blocks ≡ r * blocks + blocks
    same = omega arith

    go : (b : Bool) → nat_lt (suc r) (size / blocks) ≡ b → place_behind size blocks (r * blocks + blocks) ≡ suc r % (size / blocks) * blocks
    go true e =
        let below : suc r < size / blocks = grind (arith, nat_tests) in
        let room : suc r * blocks + blocks ≤ size = fits size blocks (suc r) below in
        let there : suc r % (size / blocks) ≡ suc r = mod-eq_of_lt below in
        let enough : r * blocks + blocks + blocks ≤ size = omega (arith, room, same) in
        let test : nat_lt size (r * blocks + blocks + blocks) ≡ false = grind (arith, nat_tests) in
        rw (test, there, same) refl
    go false e =
        let last : suc r ≡ size / blocks = grind (arith, nat_tests) in
        let is : suc r * blocks + size % blocks ≡ size = rw last (div-add-mod' size blocks) in
        let rest : size % blocks < blocks = mod_below size blocks pos in
        let full : size < r * blocks + blocks + blocks = omega (arith, is, rest, same) in
        let test : nat_lt size (r * blocks + blocks + blocks) ≡ true = grind (arith, nat_tests) in
        let back : suc r % (size / blocks) ≡ 0 = rw last (self (size / blocks) (omega (arith, l))) in
        rw (test, back) (omega arith)

pub round : (size blocks : ℕ) → 0 < blocks → blocks ≤ size → (before : ℕ) → sequential_place size blocks before ≡ before % (size / blocks) * blocks
unfolding sequential_place
round size blocks pos fit zero =
    let test : nat_lt size (0 + blocks) ≡ false = grind (arith, nat_tests) in
    let first : 0 % (size / blocks) ≡ 0 = mod-eq_of_lt (some size blocks pos fit) in
    rw (test, first) (omega arith)
round size blocks pos fit (suc before) =
    let r = before % (size / blocks) in
    let so_far : sequential_place size blocks before ≡ r * blocks = round size blocks pos fit before in
    let more : suc before % (size / blocks) ≡ suc r % (size / blocks) = suc-mod before (size / blocks) in
    rw (so_far, more) (next size blocks r pos (mod_below before (size / blocks) (some size blocks pos fit)))
