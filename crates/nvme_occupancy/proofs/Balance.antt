-- How the area under a number goes on.
use Rattle.std.proofs.Common.{◌≡◌, ◌∙◌, ℕ, ◌+◌, ◌-◌, ◌*◌, ◌<◌, ◌≤◌, sym, ap, arith}
use Rattle.std.proofs.Math.Nat.{mul-add, mul-le-mul_left, mul-le-mul, mul-one, mul_comm}

-- time goes on
product_on : (n now at : ℕ) → now ≤ at → n * at ≡ n * now + n * (at - now)
product_on n now at l = let e : at ≡ now + (at - now) = omega (arith, l) in ap (λ (t : ℕ). n * t) e ∙ mul-add n now (at - now)

product_apart : (came left t : ℕ) → left ≤ came → (came - left) * t + left * t ≡ came * t
product_apart came left t l =
    let e : came ≡ (came - left) + left = omega (arith, l) in
    sym (ap (λ (n : ℕ). n * t) e ∙ mul_comm ((came - left) + left) t ∙ mul-add t (came - left) left ∙ ap (λ (n : ℕ). n + t * left) (mul_comm t (came - left)) ∙ ap (λ (n : ℕ). (came - left) * t + n) (mul_comm t left))

pub goes_on : (came left now at area came_times left_times : ℕ) → left ≤ came → now ≤ at
    → area + came_times + left * now ≡ came * now + left_times
    → area + (came - left) * (at - now) + came_times + left * at ≡ came * at + left_times
goes_on came left now at area came_times left_times some later balanced =
    omega (arith, balanced, product_on came now at later, product_on left now at later, product_apart came left (at - now) some)

-- times until now are no later than then
pub no_later : (n now at times : ℕ) → now ≤ at → times ≤ n * now → times ≤ n * at
no_later n now at times later within = let more : n * now ≤ n * at = mul-le-mul_left n later in omega (arith, more, within)

-- the area fits
pub fits : (came left now at area came_times left_times : ℕ) → left ≤ came → now ≤ at → came < 0x1_0000_0000_0000_0000 → at < 0x1_0000_0000_0000_0000
    → left_times ≤ left * now
    → area + came_times + left * now ≡ came * now + left_times
    → area + (came - left) * (at - now) < 0x1_0000_0000_0000_0000_0000_0000_0000_0000 - 0x1_0000_0000_0000_0000
fits came left now at area came_times left_times some later few early within balanced =
    let whole : area + (came - left) * (at - now) + came_times + left * at ≡ came * at + left_times =
    goes_on came left now at area came_times left_times some later balanced in
    let until : left_times ≤ left * at = no_later left now at left_times later within in
    let most : came * at ≤ 0xffff_ffff_ffff_ffff * 0xffff_ffff_ffff_ffff = mul-le-mul {n₁ = came} {m₁ = at} {n₂ = 0xffff_ffff_ffff_ffff} {m₂ = 0xffff_ffff_ffff_ffff} (omega (arith, few)) (omega (arith, early)) in
    omega (arith, whole, until, most)

one_more : (n t : ℕ) → (n + 1) * t ≡ n * t + t
one_more n t = mul_comm (n + 1) t ∙ mul-add t n 1 ∙ ap (λ (x : ℕ). x + t * 1) (mul_comm t n) ∙ ap (λ (x : ℕ). n * t + x) (mul-one t)

-- one more, then
pub one_within : (n now at times : ℕ) → now ≤ at → times ≤ n * now → times + at ≤ (n + 1) * at
one_within n now at times later within = omega (arith, no_later n now at times later within, one_more n at)

pub comes_balanced : (came left now at area came_times left_times : ℕ) → left ≤ came → now ≤ at
    → area + came_times + left * now ≡ came * now + left_times
    → area + (came - left) * (at - now) + (came_times + at) + left * at ≡ (came + 1) * at + left_times
comes_balanced came left now at area came_times left_times some later balanced =
    omega (arith, goes_on came left now at area came_times left_times some later balanced, one_more came at)

pub leaves_balanced : (came left now at area came_times left_times : ℕ) → left ≤ came → now ≤ at
    → area + came_times + left * now ≡ came * now + left_times
    → area + (came - left) * (at - now) + came_times + (left + 1) * at ≡ came * at + (left_times + at)
leaves_balanced came left now at area came_times left_times some later balanced =
    omega (arith, goes_on came left now at area came_times left_times some later balanced, one_more left at)
