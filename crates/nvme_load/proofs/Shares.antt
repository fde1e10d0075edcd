-- Each operation has its share of the accepted words.
use Rattle.std.proofs.Common.{◌≡◌, ◌∙◌, ℕ, ◌+◌, ◌-◌, ◌*◌, ◌/◌, ◌%◌, Bool, true, false, cond, nat_lt, ap, refl, arith, rules}
use Rattle.std.proofs.lemmas.Bool.Decides.{nat_tests}
use Rattle.std.proofs.lemmas.Nat.{div-add-mod'}
use Rattle.nvme_load.specs.declared.mix.Operation.{Operation}
use Rattle.nvme_load.specs.declared.mix.Operation.TheVariants.{Read, Write, Flush}
use Rattle.nvme_load.specs.Counts.{count_below}
use Rattle.nvme_load.specs.Mixes.{operation_at}
use Rattle.nvme_load.specs.Shares.{HasItsShares, is_flush, is_read, is_write}
use Rattle.nvme_load.proofs.Counts.{all_alike, behind, rounds}

-- the numbers below the sum of the shares
shares : (test : Operation → Bool) (read write flush : ℕ) → count_below (λ n. test (operation_at read write n)) (read + write + flush)
    ≡ read * cond (test Read) 1 0 + write * cond (test Write) 1 0 + flush * cond (test Flush) 1 0
shares test read write flush =
    let at = λ (n : ℕ). test (operation_at read write n) in
    let last = behind at (read + write) flush in
    let first = behind at read write in
    let reads : count_below at read ≡ read * cond (test Read) 1 0 =
    all_alike at (test Read) read (λ i l. let a : nat_lt i read ≡ true = search (rules, arith) in rw a refl) in
    let writes : count_below (λ i. at (read + i)) write ≡ write * cond (test Write) 1 0 =
    all_alike (λ i. at (read + i)) (test Write) write
    (λ i l. let a : nat_lt (read + i) read ≡ false = grind (arith, nat_tests) in
    let b : nat_lt (read + i) (read + write) ≡ true = grind (arith, nat_tests) in rw (a, b) refl) in
    let flushes : count_below (λ i. at (read + write + i)) flush ≡ flush * cond (test Flush) 1 0 =
    all_alike (λ i. at (read + write + i)) (test Flush) flush
    (λ i l. let a : nat_lt (read + write + i) read ≡ false = grind (arith, nat_tests) in
    let b : nat_lt (read + write + i) (read + write) ≡ false = grind (arith, nat_tests) in rw (a, b) refl) in
    omega (arith, last, first, reads, writes, flushes)

whole : (m n : ℕ) → m - m % n ≡ m / n * n
whole m n = let e : m / n * n + m % n ≡ m = div-add-mod' m n in omega arith

words_of : (test : Operation → Bool) (m read write flush : ℕ)
    → count_below (λ word. test (operation_at read write (word % (read + write + flush)))) (m - m % (read + write + flush))
    ≡ m / (read + write + flush) * (read * cond (test Read) 1 0 + write * cond (test Write) 1 0 + flush * cond (test Flush) 1 0)
words_of test m read write flush =
    let sum = read + write + flush in
    rw (whole m sum) (rounds (λ n. test (operation_at read write n)) sum (m / sum)
    ∙ ap (λ (c : ℕ). m / sum * c) (shares test read write flush))

pub fair : (read write flush : ℕ) → HasItsShares read write flush
fair read write flush =
    let m : ℕ = 0xffff_ffff_ffff_ffff in
    let k = m / (read + write + flush) in
    let only_reads : read * 1 + write * 0 + flush * 0 ≡ read = omega arith in
    let only_writes : read * 0 + write * 1 + flush * 0 ≡ write = omega arith in
    let only_flushes : read * 0 + write * 0 + flush * 1 ≡ flush = omega arith in
    record {
      all = whole m (read + write + flush);
      reads = words_of is_read m read write flush ∙ ap (λ (c : ℕ). k * c) only_reads;
      writes = words_of is_write m read write flush ∙ ap (λ (c : ℕ). k * c) only_writes;
      flushes = words_of is_flush m read write flush ∙ ap (λ (c : ℕ). k * c) only_flushes;
    }
