-- Means of numbers by their shares, where nothing is cut off.
use Rattle.std.proofs.Common.{◌≡◌, ℕ, ◌+◌, ◌*◌, ◌/◌, ◌<◌, ◌≤◌, min, arith}
use Rattle.std.proofs.lemmas.Nat.{mul-lt}

product_is : (most m n number share product : ℕ) → number < m → share < n → m * n * 3 ≤ most → product ≡ min (number * share) most
    → (product ≡ number * share) × (product < m * n)
product_is most m n number share product small few fits is =
    let below = mul-lt number share m n small few in (omega arith, omega arith)

pub mean_by_shares : (most m n a b c r w f reads writes flushes both sum first all result : ℕ) → a < m → b < m → c < m → r < n → w < n → f < n → m * n * 3 ≤ most → n * 3 ≤ most
    → reads ≡ min (a * r) most → writes ≡ min (b * w) most → flushes ≡ min (c * f) most → both ≡ min (reads + writes) most → sum ≡ min (both + flushes) most
    → first ≡ min (r + w) most → all ≡ min (first + f) most → result ≡ min (sum * 1) most / all → result ≡ (a * r + b * w + c * f) / (r + w + f)
mean_by_shares most m n a b c r w f reads writes flushes both sum first all result a_small b_small c_small r_few w_few f_few fits shares_fit reads_are writes_are flushes_are both_are sum_is first_is all_is is =
    let of_reads = product_is most m n a r reads a_small r_few fits reads_are in
    let of_writes = product_is most m n b w writes b_small w_few fits writes_are in
    let of_flushes = product_is most m n c f flushes c_small f_few fits flushes_are in
    let top : min (sum * 1) most ≡ a * r + b * w + c * f = omega (arith, of_reads.0, of_reads.1, of_writes.0, of_writes.1, of_flushes.0, of_flushes.1) in
    let bottom : all ≡ r + w + f = omega arith in
    cc

-- the same of equal numbers
pub mean_of_same : (a b c r w f a' b' c' r' w' f' result : ℕ) → result ≡ (a * r + b * w + c * f) / (r + w + f) → a ≡ a' → b ≡ b' → c ≡ c' → r ≡ r' → w ≡ w' → f ≡ f'
    → result ≡ (a' * r' + b' * w' + c' * f') / (r' + w' + f')
mean_of_same a b c r w f a' b' c' r' w' f' result is a_is b_is c_is r_is w_is f_is = cc
