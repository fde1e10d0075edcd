-- How many of the words that a draw accepts draw each operation. (profile)
use Rattle.std.specs.Prelude.{◌≡◌, ℕ, ◌+◌, ◌*◌, ◌/◌, ◌%◌, Bool, true, false}
use Rattle.nvme_clock.specs.Draws.{accepted_below}
use Rattle.nvme_load.specs.declared.mix.Operation.{Operation}
use Rattle.nvme_load.specs.declared.mix.Operation.TheVariants.{Read, Write, Flush}
use Rattle.nvme_load.specs.Counts.{count_below}
use Rattle.nvme_load.specs.Mixes.{operation_at}

abbrev pub is_read : Operation → Bool
is_read Read = true
is_read Write = false
is_read Flush = false

abbrev pub is_write : Operation → Bool
is_write Read = false
is_write Write = true
is_write Flush = false

abbrev pub is_flush : Operation → Bool
is_flush Read = false
is_flush Write = false
is_flush Flush = true

-- how many of the accepted words draw an operation that passes a test, where a word draws that of its remainder
abbrev pub accepted_words : (Operation → Bool) → ℕ → ℕ → ℕ → ℕ
accepted_words test read write flush =
    count_below (λ word. test (operation_at read write (word % (read + write + flush)))) (accepted_below (read + write + flush))

-- the accepted words are so many times the sum of the shares, and each operation has so many times its share of them
pub record HasItsShares (read write flush : ℕ) : Type 0 where
  pub all : accepted_below (read + write + flush) ≡ 0xffff_ffff_ffff_ffff / (read + write + flush) * (read + write + flush)
  pub reads : accepted_words is_read read write flush ≡ 0xffff_ffff_ffff_ffff / (read + write + flush) * read
  pub writes : accepted_words is_write read write flush ≡ 0xffff_ffff_ffff_ffff / (read + write + flush) * write
  pub flushes : accepted_words is_flush read write flush ≡ 0xffff_ffff_ffff_ffff / (read + write + flush) * flush
